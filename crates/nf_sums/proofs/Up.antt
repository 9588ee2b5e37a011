-- An error that a `?` hands on.
use Rattle.std.proofs.Common.{◌≡◌, sym, subst, Result, Ok, Err}
use Rattle.std.specs.Prelude.{IfErr, IsErrAnd}
use Rattle.nf_num.specs.Rational.{ℚ}
use Rattle.nf_frac.specs.declared.Op.{Op}
use Rattle.nf_frac.specs.declared.Passed.{Passed}
use Rattle.nf_frac.specs.Range.{Passes}
use Rattle.nf_sums.proofs.Laws.{passes_from}

pub handed_on : {T : Type 0} (r : Result T Passed) (e : Passed) (P : Passed → Type 0) → IsErrAnd r (λ q. q ≡ e) → P e → IfErr r P
handed_on (Ok x) e P is p = tt
handed_on (Err q) e P is p = subst P (sym is) p

-- an operation's result that is handed on whole
pub handed_whole : (r : Result ℚ Passed) (op : Op) (x y : ℚ) (P : Passed → Type 0) → IfErr r (λ q. (q ≡ record { op = op; left = x; right = y }) × Passes op x y) → ((q : Passed) → q ≡ record { op = op; left = x; right = y } → Passes q.op q.left q.right → P q) → IfErr r P
handed_whole (Ok z) op x y P passed h = tt
handed_whole (Err q) op x y P passed h = h q passed.0 (passes_from op x y q passed.0 passed.1)
