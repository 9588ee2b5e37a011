use Rattle.std.proofs.Common.{◌≡◌, ◌<◌, ◌≤◌, ◌⊎◌, inl, inr, ℕ, length, arith}
use Rattle.std.proofs.lemmas.List.{get_or_past}
use Rattle.nf_num.specs.Rational.{zero_ℚ}
use Rattle.nf_model.specs.Program.{at}
use Rattle.nf_tree.proofs.path.clear.Goals as goal

less_or_not : (i n : ℕ) → (i < n) ⊎ (n ≤ i)
less_or_not i n = grind arith

pub returns-clause-zeros : goal.returns-clause-zeros
returns-clause-zeros c k = of (less_or_not k (length c.loop-k.out))
  where
    of : (k < length c.loop-k.out) ⊎ (length c.loop-k.out ≤ k) → at c.loop-k.out k ≡ zero_ℚ
    of (inl h) = c.loop-k.invariant k (let a = c.loop-k-test.false in let d = c.loop-k.auto.out in omega arith)
    of (inr h) = get_or_past c.loop-k.out k zero_ℚ h
