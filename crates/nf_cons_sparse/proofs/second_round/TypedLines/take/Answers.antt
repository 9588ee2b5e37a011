use Rattle.std.proofs.Common.{◌≡◌, ◌∙◌, refl, ap}
use Rattle.nf_cons_sparse.specs.TypedState.{type_now}
use Rattle.nf_cons_sparse.proofs.TypedFacts.{map-match, take-clear, take-told, value-clear, value-told}
use Rattle.nf_cons_sparse.proofs.second_round.TypedLines.take.Goals as goal

pub returns-in-Some-variable : goal.returns-in-Some-variable
returns-in-Some-variable c =
    let type : c.unwrap_or-row_type.result ≡ type_now c.args.self.now c.args.given = c.unwrap_or-row_type.ensures ∙ ap (λ s. type_now s c.args.given) c.self.view_is in
    let numbered = c.in-Ok.ensures in
    map-match c.take_term.result c.take_term.ensures
    (λ x h. take-clear c.args.self.now c.args.line c.args.given c.args.number c.unwrap_or-row_type.result c.in-Some-variable.variable c.in-Some.value c.number_row.new.self _ type c.in-Some-variable.is c.in-Some.is
    numbered.0 numbered.1 h)
    (λ f h. take-told c.args.self.now c.args.line c.args.given c.unwrap_or-row_type.result c.in-Some-variable.variable c.in-Some.value c.number_row.new.self f type c.in-Some-variable.is c.in-Some.is
    numbered.0 numbered.1 h)

pub returns-in-None : goal.returns-in-None
returns-in-None c =
    let type : c.unwrap_or-row_type.result ≡ type_now c.args.self.now c.args.given = c.unwrap_or-row_type.ensures ∙ ap (λ s. type_now s c.args.given) c.self.view_is in
    let numbered = c.in-Ok.ensures in
    map-match c.check_value.result c.check_value.ensures
    (λ x h. value-clear c.args.self.now c.args.line c.args.given c.args.number c.unwrap_or-row_type.result c.in-Some.value c.number_row.new.self _ type c.in-None.is c.in-Some.is numbered.0 numbered.1 refl h)
    (λ f h. value-told c.args.self.now c.args.line c.args.given c.unwrap_or-row_type.result c.in-Some.value f type c.in-None.is c.in-Some.is numbered.0 h)
