-- The exact text of SHOW OPTIONS: a line for each session option.
-- What a session prints of its options rests on it.
use Rattle.std.specs.Prelude.{◌++◌, ℕ, Bool, List, codes, decimal, if◌then◌else◌}
use Rattle.nf_program.specs.declared.program.PriceType.{PriceType}
use Rattle.nf_program.specs.declared.program.PriceType.TheVariants as price
use Rattle.nf_program.specs.declared.program.SessionOptions.{SessionOptions}

-- The word for a rule of pricing.
abbrev pub rule_word : PriceType → List ℕ
rule_word price.First = codes "FIRST"
rule_word price.Best = codes "BEST"
rule_word price.Bland = codes "BLAND"
rule_word price.Queue = codes "QUEUE"

-- The line of an option that is a count, that is on or off, or that is a rule of pricing.
abbrev pub count_line : List ℕ → ℕ → List ℕ
count_line word n = word ++ (codes "=" ++ (decimal n ++ codes "\n"))

abbrev pub switch_line : List ℕ → Bool → List ℕ
switch_line word on = count_line word (if on then 1 else 0)

abbrev pub rule_line : List ℕ → PriceType → List ℕ
rule_line word rule = word ++ (codes "=" ++ (rule_word rule ++ codes "\n"))

-- The limits and pauses.
unfoldable pub pause_lines : SessionOptions → List ℕ
pause_lines o = count_line (codes "MAXIT1") o.maxit1 ++ (count_line (codes "MAXIT2") o.maxit2 ++ (count_line (codes "PAUSE1") o.pause1 ++ count_line (codes "PAUSE2") o.pause2))

-- The options that are on or off.
unfoldable pub switch_lines : SessionOptions → List ℕ
switch_lines o =
    switch_line (codes "FEASIBLEPAUSE1") o.feasiblepause1
    ++ (switch_line (codes "FEASIBLEPAUSE2") o.feasiblepause2
    ++ (switch_line (codes "ENDPAUSE1") o.endpause1
    ++ (switch_line (codes "FUTURE1") o.future1
    ++ switch_line (codes "FUTURE2") o.future2)))

-- The rules of pricing, and the sizes of their queues.
unfoldable pub price_lines : SessionOptions → List ℕ
price_lines o =
    rule_line (codes "PRICETYPE1") o.pricetype1
    ++ (rule_line (codes "PRICETYPE2") o.pricetype2
    ++ (count_line (codes "QUEUESIZE1") o.queuesize1
    ++ count_line (codes "QUEUESIZE2") o.queuesize2))

-- All of them.
abbrev pub option_lines : SessionOptions → List ℕ
option_lines o = pause_lines o ++ (switch_lines o ++ price_lines o)
