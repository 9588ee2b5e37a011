use Rattle.std.proofs.Common.{subst}
use Rattle.nf_simplex.proofs.Numbered.{number_within}
use Rattle.nf_basis.specs.Names.{col_of}
use Rattle.nf_basis.specs.Kept.{number}
use Rattle.nf_simplex.specs.Layout.{layout_of}
use Rattle.nf_tree.specs.Links.{GiveBetween}
use Rattle.nf_tree.specs.Vertices.{tail_at}
use Rattle.nf_tree.proofs.Gathered.{gives_column}
use Rattle.nf_tree.proofs.tree.Tree.cycle.Goals as goal

pub returns-clause-weights : goal.returns-clause-weights
returns-clause-weights g c =
    let p = c.args.p.now in
    let b = c.args.self.now in
    let s = b.state.standing in
    let h = c.requires.links in
    let j = number p c.args.col in
    gives_column p s b.slots.items h.state.problem h.stage j (number_within (layout_of p) s.stage (col_of c.args.col) h.state.problem.arcs_within c.requires.present.1) c.path_between.new.out
    (subst (λ v. GiveBetween p s b.slots.items (tail_at p s j) v c.path_between.new.out) c.head_of-to.ensures.value
    (subst (λ u. GiveBetween p s b.slots.items u c.head_of-to.result c.path_between.new.out) c.tail_of-from.ensures.value
    (subst (λ xs. GiveBetween p s xs c.tail_of-from.result c.head_of-to.result c.path_between.new.out) c.as_slice.ensures.value c.path_between.ensures.gives)))
