-- The exact line by which saved tables are refused.
-- What a program prints of them rests on it.
use Rattle.std.specs.Prelude.{◌++◌, ℕ, List, codes, decimal}
use Rattle.nf_saved.specs.declared.fault.SavedColumn.{SavedColumn}
use Rattle.nf_saved.specs.declared.fault.SavedColumn.TheVariants as col
use Rattle.nf_saved.specs.declared.fault.SavedFault.{SavedFault}
use Rattle.nf_saved.specs.declared.fault.SavedFault.TheVariants as fault
use Rattle.nf_saved.specs.declared.fault.SavedSet.{SavedSet}
use Rattle.nf_saved.specs.declared.fault.SavedSet.TheVariants as set

-- The option of PROC that names a table.
abbrev pub set_word : SavedSet → List ℕ
set_word set.Conin = codes "CONIN"
set_word set.Dualin = codes "DUALIN"
set_word set.Session = codes "SESSIONDATA"

-- What is not as many as it must be: the rows of a table, or the basic columns of the session.
abbrev pub counted_word : SavedSet → List ℕ
counted_word set.Conin = codes "CONIN"
counted_word set.Dualin = codes "DUALIN"
counted_word set.Session = codes "SESSION"

-- The name of a column.
abbrev pub column_word : SavedColumn → List ℕ
column_word col.Key = codes "_KEY_"
column_word col.Number = codes "_NUMBER_"
column_word col.Value = codes "_VALUE_"
column_word col.Status = codes "_STATUS_"
column_word col.Anumb = codes "_ANUMB_"

-- The line of a fault.
abbrev pub refusal_line : SavedFault → List ℕ
refusal_line (fault.NoColumn s c) = codes "WARM REFUSED NO COLUMN " ++ (set_word s ++ (codes " " ++ (column_word c ++ codes "\n")))
refusal_line (fault.BadSession row) = codes "WARM REFUSED BAD SESSION ROW " ++ (decimal row ++ codes "\n")
refusal_line (fault.WrongCount s) = codes "WARM REFUSED WRONG COUNT " ++ (counted_word s ++ codes "\n")
refusal_line (fault.BadStatus s row) = codes "WARM REFUSED BAD STATUS " ++ (set_word s ++ (codes " ROW " ++ (decimal row ++ codes "\n")))
