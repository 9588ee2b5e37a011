-- What the parts of a program are: roles, items, acts. The grammar and the reader speak of programs by these words.
use Rattle.std.specs.Prelude.{◌≡◌, ℕ, Bool, true, false, List, [], ◌∷◌, nat_eq, codes}
use Rattle.std.specs.List.{AllByRecursion, list_any}
use Rattle.std.specs.Str.{str_eq_ignore_ascii_case}
use Rattle.nf_program.specs.declared.program.Program.{Program}
use Rattle.nf_program.specs.declared.program.Statement.{Statement}
use Rattle.nf_program.specs.declared.program.Statement.TheVariants as act
use Rattle.nf_program.specs.declared.program.PrintItem.{PrintItem}
use Rattle.nf_program.specs.declared.program.PrintItem.TheVariants as print
use Rattle.nf_program.specs.declared.program.ShowItem.{ShowItem}
use Rattle.nf_program.specs.declared.program.ShowItem.TheVariants as show
use Rattle.nf_program.specs.declared.program.Role.{Role}
use Rattle.nf_program.specs.declared.program.Role.TheVariants as role
use Rattle.nf_program.specs.declared.words.OptionWord.{OptionWord}
use Rattle.nf_program.specs.declared.settings.Setting.{Setting}
use Rattle.nf_program.specs.Settings.{key_of, option_key, no_options}

-- The list has nothing.
abbrev pub is_empty : {A : Type 0} → List A → Bool
is_empty [] = true
is_empty (x ∷ xs) = false

-- No number comes twice.
abbrev pub AreDistinct : List ℕ → Type 0
AreDistinct [] = Unit {0}
AreDistinct (n ∷ ns) = AllByRecursion (λ m. nat_eq n m ≡ false) ns × AreDistinct ns

-- a program of which nothing is read
abbrev pub no_program : Program
no_program = record { proc = no_options; roles = []; acts = [] }

-- the word NETFLOW
abbrev pub is_netflow : List ℕ → Bool
is_netflow word = str_eq_ignore_ascii_case (codes "NETFLOW") word

-- ---- options

-- The option is among those given.
abbrev pub is_given : OptionWord → List Setting → Bool
is_given o given = list_any (λ s. nat_eq (key_of s) (option_key o)) given

-- ---- roles

-- The number of a role in its list.
abbrev pub role_number : Role → ℕ
role_number role.TailNode = 0
role_number role.HeadNode = 1
role_number role.Cost = 2
role_number role.Capacity = 3
role_number role.Lo = 4
role_number role.ArcName = 5
role_number role.Supply = 6
role_number role.Demand = 7
role_number role.Node = 8
role_number role.Supdem = 9
role_number role.Var = 10
role_number role.ConKind = 11
role_number role.Rhs = 12
role_number role.Row = 13
role_number role.Column = 14
role_number role.Coef = 15
role_number role.Id = 16

-- a role with its columns
abbrev pub RoleColumns : Type 0
RoleColumns = Role × List (List ℕ)

-- A statement of the role is among those read.
abbrev pub has_role : Role → List RoleColumns → Bool
has_role r roles = list_any (λ x. nat_eq (role_number x.0) (role_number r)) roles

-- VAR and ID take one column or more.
abbrev pub takes_list : Role → Bool
takes_list role.Var = true
takes_list role.Id = true
takes_list _ = false

-- ---- acts

-- The number of an item of PRINT in its list.
abbrev pub print_number : PrintItem → ℕ
print_number print.Problem = 0
print_number print.Solution = 1
print_number print.Arcs = 2
print_number print.Nonarcs = 3
print_number print.Nodes = 4
print_number print.Constraints = 5
print_number print.Costranges = 6
print_number print.Rhsranges = 7

-- The item is among those given.
abbrev pub has_print : PrintItem → List PrintItem → Bool
has_print i given = list_any (λ j. nat_eq (print_number j) (print_number i)) given

-- The number of an item of SHOW in its list.
abbrev pub show_number : ShowItem → ℕ
show_number show.Status = 0
show_number show.Problem = 1
show_number show.Options = 2

-- The item is among those given.
abbrev pub has_show : ShowItem → List ShowItem → Bool
has_show i given = list_any (λ j. nat_eq (show_number j) (show_number i)) given

-- The act is QUIT.
abbrev pub is_quit : Statement → Bool
is_quit act.Quit = true
is_quit _ = false
