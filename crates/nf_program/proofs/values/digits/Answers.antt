use Rattle.std.proofs.Common.{◌≤◌, ◌<◌, ◌^◌, ℕ, arith, rules}
use Rattle.std.proofs.Math.Nat.{pow-le-pow_right}
use Rattle.nf_program.proofs.values.digits.Goals as goal

small : (n i : ℕ) → n < 10 ^ i → i ≤ 8 → n < 100000000
small n i lt le = let p = pow-le-pow_right {n = 10} (omega arith) le in omega (arith, p)

pub overflow_mul-n : goal.overflow_mul-n
overflow_mul-n c = let s = small c.loop-b.n c.loop-b.b-index c.loop-b.invariant.below (omega arith) in omega (arith, s)

pub overflow_add-n : goal.overflow_add-n
overflow_add-n c = let s = small c.loop-b.n c.loop-b.b-index c.loop-b.invariant.below (omega arith) in search (rules, s)
