-- The word lists of the statement language. Each table of words is one of them.
use Rattle.std.specs.Prelude.{ℕ, ◌+◌, List, [], ◌∷◌, ◌++◌, map, codes}
use Rattle.nf_words.specs.Words.{Word}
use Prim.Native.String.{String}

-- one kind of words: its spellings, the first one first
abbrev Spellings : Type 0
Spellings = List String

-- The spellings of these kinds, the kinds numbered from k on.
abbrev numbered : ℕ → List Spellings → List Word
numbered k [] = []
numbered k (spellings ∷ kinds) = map (λ s. record { spelling = codes s; kind = k }) spellings ++ numbered (k + 1) kinds

-- a kind with one spelling
abbrev one : String → Spellings
one s = s ∷ []

-- the words that begin statements
unfoldable pub statement_list : List Word
statement_list =
    numbered 0
    (one "PROC"
    ∷ ("TAILNODE" ∷ "TAIL" ∷ "FROM" ∷ [])
    ∷ ("HEADNODE" ∷ "HEAD" ∷ "TO" ∷ [])
    ∷ one "COST"
    ∷ ("CAPACITY" ∷ "CAPAC" ∷ "UPPERBD" ∷ [])
    ∷ ("LO" ∷ "LOWERBD" ∷ "MINFLOW" ∷ [])
    ∷ one "NAME" ∷ one "SUPPLY" ∷ one "DEMAND"
    ∷ one "NODE" ∷ one "SUPDEM"
    ∷ one "VAR" ∷ one "TYPE" ∷ one "RHS" ∷ one "ROW" ∷ one "COLUMN" ∷ one "COEF"
    ∷ one "ID"
    ∷ one "RESET" ∷ one "PIVOT" ∷ one "PRINT" ∷ one "SHOW" ∷ one "SAVE" ∷ one "RUN" ∷ one "QUIT" ∷ [])

-- the options of PROC, RESET and SAVE, in the order in which PROC's canonical text has them
unfoldable pub option_list : List Word
option_list =
    numbered 0
    (one "ARCDATA" ∷ one "NODEDATA" ∷ one "CONDATA" ∷ one "CERTDATA"
    ∷ one "CONIN" ∷ one "DUALIN" ∷ one "SESSIONDATA"
    ∷ one "SPARSECONDATA" ∷ one "THRUNET" ∷ ("MAXIMIZE" ∷ "MAX" ∷ []) ∷ one "WARM" ∷ ("MAXFLOW" ∷ "MF" ∷ []) ∷ ("SHORTPATH" ∷ "SP" ∷ [])
    ∷ one "DEFCOST" ∷ one "DEFMINFLOW" ∷ one "DEFCAPACITY" ∷ one "DEFCONTYPE"
    ∷ one "SOURCE" ∷ one "SINK" ∷ one "SUPPLY" ∷ one "DEMAND"
    ∷ one "ARCOUT" ∷ one "NODEOUT" ∷ one "CONOUT" ∷ one "DUALOUT" ∷ one "SESSIONOUT" ∷ one "CERTOUT"
    ∷ one "MAXIT1" ∷ one "MAXIT2" ∷ one "PAUSE1" ∷ one "PAUSE2"
    ∷ one "FEASIBLEPAUSE1" ∷ one "NOFEASIBLEPAUSE1" ∷ one "FEASIBLEPAUSE2" ∷ one "NOFEASIBLEPAUSE2"
    ∷ one "ENDPAUSE1" ∷ one "NOENDPAUSE1"
    ∷ one "FUTURE1" ∷ one "NOFUTURE1" ∷ one "FUTURE2" ∷ one "NOFUTURE2"
    ∷ one "PRICETYPE1" ∷ one "PRICETYPE2" ∷ one "QUEUESIZE1" ∷ one "QUEUESIZE2" ∷ [])

-- the items of PRINT
unfoldable pub print_list : List Word
print_list = numbered 0 (one "PROBLEM" ∷ one "SOLUTION" ∷ one "ARCS" ∷ one "NONARCS" ∷ one "NODES" ∷ one "CONSTRAINTS" ∷ one "COSTRANGES" ∷ one "RHSRANGES" ∷ [])

-- the items of SHOW
unfoldable pub show_list : List Word
show_list = numbered 0 (one "STATUS" ∷ one "PROBLEM" ∷ one "OPTIONS" ∷ [])

-- the types of constraints and of data rows
unfoldable pub type_list : List Word
type_list =
    numbered 0
    (("LE" ∷ "L" ∷ "<=" ∷ "<" ∷ [])
    ∷ ("GE" ∷ "G" ∷ ">=" ∷ ">" ∷ [])
    ∷ ("EQ" ∷ "E" ∷ "=" ∷ [])
    ∷ one "COST"
    ∷ ("LOWERBD" ∷ "LO" ∷ [])
    ∷ ("UPPERBD" ∷ "CAPAC" ∷ []) ∷ [])

-- the pricing rules
unfoldable pub price_list : List Word
price_list = numbered 0 (one "FIRST" ∷ one "BEST" ∷ one "BLAND" ∷ ("QUEUE" ∷ "Q" ∷ []) ∷ [])

-- the statuses of columns and rows
unfoldable pub status_list : List Word
status_list = numbered 0 (one "LOWERBD" ∷ one "UPPERBD" ∷ one "BASIC" ∷ one "ABSENT" ∷ one "NONE" ∷ one "ZERO" ∷ [])

-- the last halts of a session
unfoldable pub last_list : List Word
last_list =
    numbered 0
    (one "NONE" ∷ one "OPTIMAL" ∷ one "INFEASIBLE" ∷ one "UNBOUNDED" ∷ one "LIMIT"
    ∷ one "PAUSE" ∷ one "FEASIBLE" ∷ one "STAGEONE" ∷ one "PIVOT" ∷ [])
