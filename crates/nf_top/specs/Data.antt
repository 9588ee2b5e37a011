-- What the bytes of data sets stand for: the problem that a run or a check is about, and the certificate of a check.
-- The headline, and every later command on a problem, rests on it.
use Rattle.std.specs.Prelude.{◌≡◌, ℕ, List, Option, Some, None, Ok, length}
use Rattle.nf_program.specs.declared.program.Program.{Program}
use Rattle.nf_program.specs.declared.program.SetName.{SetName}
use Rattle.nf_program.specs.declared.program.SetName.TheVariants as set
use Rattle.nf_table.specs.Grid.{Grid}
use Rattle.nf_table.specs.Reading.{table_read}
use Rattle.nf_model.specs.Program.{LinearProgram}
use Rattle.nf_prob.specs.declared.cert.Cert.{Cert}
use Rattle.nf_network.specs.Network.{Network}
use Rattle.nf_cert.specs.Reading.{cert_read}
use Rattle.nf_top.specs.ProblemOf.{Sets as ProblemSets, problem_of}

-- The bytes of the data sets that a command fetches. NODEDATA and CONDATA may be left out, and CERTDATA is of `check` only.
pub record Sets : Type 0 where
  pub arcdata : List ℕ
  pub nodedata : Option (List ℕ)
  pub condata : Option (List ℕ)
  pub certdata : Option (List ℕ)

-- The tables of these data sets.
pub record Grids : Type 0 where
  pub arcdata : Grid
  pub nodedata : Option Grid
  pub condata : Option Grid
  pub certdata : Option Grid

-- The bytes of one of the sets, if it is there.
abbrev pub bytes_of : Sets → SetName → Option (List ℕ)
bytes_of s set.Arcdata = Some s.arcdata
bytes_of s set.Nodedata = s.nodedata
bytes_of s set.Condata = s.condata
bytes_of s set.Certdata = s.certdata
bytes_of s _ = None

-- Those of which the problem is.
abbrev pub data_of : Sets → ProblemSets
data_of s = record { arcdata = s.arcdata; nodedata = s.nodedata; condata = s.condata }

-- These bytes are this table.
abbrev pub IsTable : List ℕ → Grid → Type 0
IsTable bytes table = table_read bytes ≡ Ok table

-- A set that may be left out is this table, or neither is there.
abbrev pub IsTableOrNone : Option (List ℕ) → Option Grid → Type 0
IsTableOrNone None None = Unit {0}
IsTableOrNone None (Some table) = ⊥
IsTableOrNone (Some bytes) None = ⊥
IsTableOrNone (Some bytes) (Some table) = IsTable bytes table

-- The sets that a command fetches are these tables.
pub record AreTables (s : Sets) (t : Grids) : Type 0 where
  pub arcdata : IsTable s.arcdata t.arcdata
  pub nodedata : IsTableOrNone s.nodedata t.nodedata
  pub condata : IsTableOrNone s.condata t.condata
  pub certdata : IsTableOrNone s.certdata t.certdata

-- The sets before this one are tables.
abbrev pub AreTablesBefore : Sets → SetName → Type 0
AreTablesBefore s set.Nodedata = (arcs : Grid) × IsTable s.arcdata arcs
AreTablesBefore s set.Condata = (arcs : Grid) × (nodes : Option Grid) × IsTable s.arcdata arcs × IsTableOrNone s.nodedata nodes
AreTablesBefore s set.Certdata =
    (arcs : Grid) × (nodes cons : Option Grid) × IsTable s.arcdata arcs × IsTableOrNone s.nodedata nodes × IsTableOrNone s.condata cons
AreTablesBefore s _ = Unit {0}

-- The data sets of a program stand for this problem.
pub record IsProblemOf (program : Program) (sets : Sets) (problem : LinearProgram) : Type 0 where
  pub network : Network
  pub posed : problem_of program (data_of sets) ≡ Ok network
  pub is : problem ≡ network.program

-- CERTDATA is there, and its bytes stand for this certificate of a problem.
pub record IsCertificateOf (certdata : Option (List ℕ)) (problem : LinearProgram) (certificate : Cert) : Type 0 where
  pub table : Grid
  pub table_is : IsTableOrNone certdata (Some table)
  pub claimed : cert_read table (length problem.columns) (length problem.rows) ≡ Ok certificate
