-- The exact text of each line of the listing, each with its line feed. What was listed rests on it. A line that prints a
-- cell of the data prints no control byte of it.
use Rattle.std.specs.Prelude.{◌++◌, ◌==◌, ◌||◌, ℕ, Bool, List, [], codes, decimal, if◌then◌else◌, map}
use Rattle.std.specs.Bool.{nat_lt}
use Rattle.nf_num.specs.Rational.{ℚ}
use Rattle.nf_frac.specs.Texts.{frac_text, op_text}
use Rattle.nf_frac.specs.declared.passed.Passed.{Passed}
use Rattle.nf_program.specs.declared.program.StmtFault.{StmtFault}
use Rattle.nf_program.specs.Kinds.{kind_word}
use Rattle.nf_table.specs.declared.table.TableFault.{TableFault}
use Rattle.nf_table.specs.declared.table.TableFault.TheVariants as table
use Rattle.nf_prob.specs.declared.cert.Why.{Why}
use Rattle.nf_prob.specs.declared.cert.Why.TheVariants as why
use Rattle.nf_prob.specs.declared.cert.Cert.{Cert}
use Rattle.nf_prob.specs.declared.cert.Cert.TheVariants as certificate
use Rattle.nf_run.specs.declared.line.HaltLine.{HaltLine}
use Rattle.nf_run.specs.declared.line.HaltLine.TheVariants as halt
use Rattle.nf_run.specs.Lines.{halt_lines}
use Rattle.nf_sums.specs.Terms.{with_sign}
use Rattle.nf_program.specs.declared.program.Role.{Role}
use Rattle.nf_program.specs.declared.program.Role.TheVariants as role
use Rattle.nf_program.specs.declared.program.SetName.{SetName}
use Rattle.nf_program.specs.declared.program.SetName.TheVariants as set
use Rattle.nf_roles.specs.declared.fault.RoleFault.{RoleFault}
use Rattle.nf_roles.specs.declared.fault.RoleFault.TheVariants as roles
use Rattle.nf_roles.specs.declared.fault.DataFault.{DataFault}
use Rattle.nf_roles.specs.Kinds.{data_word}
use Rattle.nf_cert.specs.declared.fault.CertFault.{CertFault}
use Rattle.nf_cert.specs.declared.fault.CertFault.TheVariants as cert
use Rattle.nf_top.specs.declared.refusal.Refusal.{Refusal}
use Rattle.nf_top.specs.declared.refusal.Refusal.TheVariants as refusal

-- The word of PROC by which a data set is told, or PROC itself.
abbrev pub set_word : SetName → List ℕ
set_word set.Arcdata = codes "ARCDATA"
set_word set.Nodedata = codes "NODEDATA"
set_word set.Condata = codes "CONDATA"
set_word set.Certdata = codes "CERTDATA"
set_word set.Conin = codes "CONIN"
set_word set.Dualin = codes "DUALIN"
set_word set.Sessiondata = codes "SESSIONDATA"
set_word set.Proc = codes "PROC"

-- The word of a role's statement, in its first spelling.
abbrev pub role_word : Role → List ℕ
role_word role.TailNode = codes "TAILNODE"
role_word role.HeadNode = codes "HEADNODE"
role_word role.Cost = codes "COST"
role_word role.Capacity = codes "CAPACITY"
role_word role.Lo = codes "LO"
role_word role.ArcName = codes "NAME"
role_word role.Supply = codes "SUPPLY"
role_word role.Demand = codes "DEMAND"
role_word role.Node = codes "NODE"
role_word role.Supdem = codes "SUPDEM"
role_word role.Var = codes "VAR"
role_word role.ConKind = codes "TYPE"
role_word role.Rhs = codes "RHS"
role_word role.Row = codes "ROW"
role_word role.Column = codes "COLUMN"
role_word role.Coef = codes "COEF"
role_word role.Id = codes "ID"

-- A byte of a header cell as a line prints it: `?` for each control byte, so that no cell ends the line.
abbrev pub shown : ℕ → ℕ
shown byte = if nat_lt byte 32 || byte == 127 then 63 else byte

-- A header cell, or another name, as a line prints it.
abbrev pub printed : List ℕ → List ℕ
printed cell = map shown cell

-- A text that is no program: the place and the kind of its first fault.
abbrev pub program_line : StmtFault → List ℕ
program_line f = codes "PROGRAM REFUSED AT " ++ (decimal f.at ++ (codes ": " ++ (kind_word f.kind ++ codes "\n")))

-- What a certificate claims, with its number: the cost of its flows, its gap or its rate. Costs and rates are told in the
-- program's own sense: a program that maximises has its costs negated.
abbrev pub claim_line : Bool → Cert → ℚ → HaltLine
claim_line maximizes (certificate.Best flows duals) number = halt.Optimal (with_sign maximizes number)
claim_line maximizes (certificate.Farkas duals) number = halt.Infeasible number
claim_line maximizes (certificate.Ray flows ray) number = halt.Unbounded (with_sign maximizes number)

-- Why a certificate is not valid, with a rate in the program's own sense.
abbrev pub in_own_words : Bool → Why → Why
in_own_words maximizes (why.Rate rate) = why.Rate (with_sign maximizes rate)
in_own_words maximizes w = w

-- A certificate that is accepted, and what it claims.
abbrev pub accepted_lines : HaltLine → List ℕ
accepted_lines line = codes "ACCEPTED " ++ halt_lines line

-- A data set that is refused for a reason; with a column that it names; at a row.
abbrev pub set_line : SetName → List ℕ → List ℕ
set_line set reason = codes "DATA REFUSED " ++ (set_word set ++ (codes ": " ++ (reason ++ codes "\n")))

abbrev pub named_line : SetName → List ℕ → List ℕ → List ℕ
named_line set reason column = codes "DATA REFUSED " ++ (set_word set ++ (codes ": " ++ (reason ++ (codes " " ++ (printed column ++ codes "\n")))))

abbrev pub row_line : SetName → ℕ → List ℕ → List ℕ
row_line set row reason = codes "DATA REFUSED " ++ (set_word set ++ (codes " ROW " ++ (decimal row ++ (codes ": " ++ (reason ++ codes "\n")))))

-- A data set with too many bytes.
abbrev pub too_long_line : SetName → List ℕ
too_long_line set = set_line set (codes "TooLong")

-- A data set that is no table. Want of memory has no line.
abbrev pub table_line : SetName → TableFault → List ℕ
table_line set table.TooLong = too_long_line set
table_line set table.NoHeader = set_line set (codes "NoHeader")
table_line set (table.RowLength row) = row_line set row (codes "RowLength")
table_line set (table.NotText row) = row_line set row (codes "NotText")
table_line set (table.RepeatedColumn name) = named_line set (codes "RepeatedColumn") name
table_line set table.NoMemory = []

-- A data set whose columns have no roles. Want of memory has no line.
abbrev pub roles_line : SetName → RoleFault → List ℕ
roles_line set (roles.NoColumn name) = named_line set (codes "NoColumn") name
roles_line set (roles.TwoRoles name) = named_line set (codes "TwoRoles") name
roles_line set (roles.MissingRole r) = named_line set (codes "MissingRole") (role_word r)
roles_line set roles.NoMemory = []

-- A cell of the data, an option or the size of the problem that is refused.
abbrev pub data_line : DataFault → List ℕ
data_line f =
    codes "DATA REFUSED " ++ (set_word f.set ++ (codes " ROW " ++ (decimal f.row ++ (codes " COLUMN " ++ (printed f.column ++ (codes ": " ++ (data_word f.kind ++ codes "\n")))))))

-- A table that is no certificate. Want of memory has no line.
abbrev pub cert_line : CertFault → List ℕ
cert_line (cert.NoColumn name) = codes "REFUSED CERTDATA NO COLUMN " ++ (name ++ codes "\n")
cert_line (cert.UnknownRow row) = codes "REFUSED CERTDATA UNKNOWN ROW " ++ (decimal row ++ codes "\n")
cert_line (cert.MissingRow row) = codes "REFUSED CERTDATA MISSING ROW " ++ (decimal row ++ codes "\n")
cert_line (cert.Number row) = codes "REFUSED CERTDATA NUMBER ROW " ++ (decimal row ++ codes "\n")
cert_line cert.NoMemory = []

-- A certificate that is not valid, and where.
abbrev pub why_line : Why → List ℕ
why_line (why.Bound j) = codes "REFUSED BOUND C" ++ (decimal j ++ codes "\n")
why_line (why.Row i) = codes "REFUSED ROW " ++ (decimal i ++ codes "\n")
why_line (why.ReducedCost j) = codes "REFUSED REDUCED COST C" ++ (decimal j ++ codes "\n")
why_line (why.Dual i) = codes "REFUSED DUAL " ++ (decimal i ++ codes "\n")
why_line (why.Column j) = codes "REFUSED COLUMN C" ++ (decimal j ++ codes "\n")
why_line (why.Gap gap) = codes "REFUSED GAP " ++ (frac_text gap ++ codes "\n")
why_line (why.RayColumn j) = codes "REFUSED RAY C" ++ (decimal j ++ codes "\n")
why_line (why.RayRow i) = codes "REFUSED RAY ROW " ++ (decimal i ++ codes "\n")
why_line (why.Rate rate) = codes "REFUSED RATE " ++ (frac_text rate ++ codes "\n")

-- An operation on two fractions.
abbrev pub operation_text : Passed → List ℕ
operation_text p = frac_text p.left ++ (codes " " ++ (op_text p.op ++ (codes " " ++ frac_text p.right)))

-- One of a check that passes 128 bits.
abbrev pub range_line : Passed → List ℕ
range_line p = codes "RANGE PASSED CHECK: " ++ (operation_text p ++ codes "\n")

-- One of a run that passes 128 bits, in the stage with this number behind so many pivots of it.
abbrev pub step_range_line : ℕ → ℕ → Passed → List ℕ
step_range_line stage pivots p = codes "RANGE PASSED STAGE " ++ (decimal stage ++ (codes " ITERATION " ++ (decimal pivots ++ (codes ": " ++ (operation_text p ++ codes "\n")))))

-- The line of each refusal, which is the last line of a listing.
abbrev pub refusal_line : Refusal → List ℕ
refusal_line refusal.Usage = codes "USAGE netflow run | netflow check | netflow sample SEED NODES ARCS CONS\n"
refusal_line (refusal.NoProgram fault) = program_line fault
refusal_line refusal.NotStanding = codes "PROGRAM REFUSED AT 0: Form\n"
refusal_line refusal.ReadFault = codes "READ FAULT\n"
refusal_line (refusal.Absent name) = codes "ABSENT " ++ (name ++ codes "\n")
refusal_line (refusal.TooLong set) = too_long_line set
refusal_line (refusal.NoTable set fault) = table_line set fault
refusal_line (refusal.NoRoles set fault) = roles_line set fault
refusal_line (refusal.NoNetwork fault) = data_line fault
refusal_line (refusal.NoCertificate fault) = cert_line fault
refusal_line (refusal.NotValid why) = why_line why
refusal_line (refusal.Range passed) = range_line passed
