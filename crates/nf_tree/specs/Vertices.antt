-- The tail and the head of a column of stage one as vertices: the root is 0, and node i of a problem, from 1, is vertex i.
-- That a state of stage one is a basis exactly if its basic columns are a spanning tree rests on it.
use Rattle.std.specs.Prelude.{ℕ, suc, ◌+◌, cond, ltb, length}
use Rattle.nf_model.specs.Program.{LinearProgram, column}
use Rattle.nf_prob.specs.Numbers.{tail_number, head_number}
use Rattle.nf_simplex.specs.Columns as columns
use Rattle.nf_simplex.specs.Standing.{Standing, column_in, is_negative}
use Rattle.nf_basis.specs.declared.col.Col.{Col}
use Rattle.nf_basis.specs.declared.col.Col.TheVariants.{Given, Slack, Artificial}

-- The tail of a column: that of an arc, for the artificial of a node the node, or the root if its sign is -1, and the root for
-- all others.
abbrev pub tail_of : LinearProgram → Standing → columns.Col → ℕ
tail_of p s (columns.Given j) = tail_number (column p j).ends
tail_of p s (columns.Slack r) = 0
tail_of p s (columns.Artificial r) = cond (ltb r p.nodes) (cond (is_negative s r) 0 (suc r)) 0

-- The head of a column.
abbrev pub head_of : LinearProgram → Standing → columns.Col → ℕ
head_of p s (columns.Given j) = head_number (column p j).ends
head_of p s (columns.Slack r) = 0
head_of p s (columns.Artificial r) = cond (ltb r p.nodes) (cond (is_negative s r) (suc r) 0) 0

-- The tail of the column with this number.
abbrev pub tail_at : LinearProgram → Standing → ℕ → ℕ
tail_at p s j = tail_of p s (column_in p j)

-- The head of the column with this number.
abbrev pub head_at : LinearProgram → Standing → ℕ → ℕ
head_at p s j = head_of p s (column_in p j)

-- The name of a column in the links: a given column has its number, and an artificial the number of columns and its row.
abbrev pub link_name : LinearProgram → Col → ℕ
link_name p (Given j) = j
link_name p (Slack i) = i
link_name p (Artificial i) = length p.columns + i
