use Rattle.std.proofs.Common.{◌≡◌, subst₂, sym, length, arith}
use Rattle.std.proofs.lemmas.Grind.{common_steps}
use Rattle.std.specs.List.{All}
use Rattle.nf_prob.specs.Numbers.{IsNumber}
use Rattle.nf_prob.proofs.Storing.{numbers_of_stored}
use Rattle.nf_prob.proofs.builder.ProblemBuilder.finish.Goals as goal

pub row_lists-requires-clause-numbers : goal.row_lists-requires-clause-numbers
row_lists-requires-clause-numbers c =
    let n : length c.self.inside.rows.items ≡ c.len.result = grind (arith, common_steps) in
    subst₂ (λ xs n. All (λ d. All (λ e. IsNumber e.row n) d.entries.items) xs) (sym c.as_slice.ensures.value) n (numbers_of_stored c.self.inside.columns.items c.self.inside.rows.items c.self.inside.nodes c.self.inside.arcs c.self.inside.maximize c.self.invariant)
