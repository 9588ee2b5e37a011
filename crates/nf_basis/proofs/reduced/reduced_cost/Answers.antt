use Rattle.std.proofs.Common.{ℕ, ◌-◌, Bool, IfErr, IfOk, ◌≡◌, sym, ap, ◌∙◌, subst}
use Rattle.nf_num.specs.Rational.{ℚ, ◌*ℚ◌}
use Rattle.nf_num.specs.Sum.{delta}
use Rattle.nf_model.specs.declared.RowKind.{RowKind}
use Rattle.nf_sums.specs.Terms.{PassesIn}
use Rattle.nf_simplex.specs.Columns.{slack_sign, sign}
use Rattle.nf_basis.specs.Names.{col_of}
use Rattle.nf_basis.specs.Duals.{PriceTerms, less_paid}
use Rattle.nf_basis.proofs.Entered.{entry_is}
use Rattle.nf_basis.proofs.reduced.reduced_cost.Goals as goal

slack_entries : (i : ℕ) (v : ℚ) (k kind : RowKind) (a : ℕ → ℚ) → v ≡ slack_sign k → k ≡ kind → a ≡ (λ r. slack_sign kind *ℚ delta i r) → (λ r. v *ℚ delta i r) ≡ a
slack_entries i v k kind a q e d = ap {B = ℕ → ℚ} (λ (v : ℚ) (r : ℕ). v *ℚ delta i r) q ∙ (ap {B = ℕ → ℚ} (λ (k : RowKind) (r : ℕ). slack_sign k *ℚ delta i r) e ∙ sym d)

sign_entries : (i : ℕ) (v : ℚ) (b negative : Bool) (a : ℕ → ℚ) → v ≡ sign b → b ≡ negative → a ≡ (λ r. sign negative *ℚ delta i r) → (λ r. v *ℚ delta i r) ≡ a
sign_entries i v b negative a q e d = ap {B = ℕ → ℚ} (λ (v : ℚ) (r : ℕ). v *ℚ delta i r) q ∙ (ap {B = ℕ → ℚ} (λ (k : Bool) (r : ℕ). sign k *ℚ delta i r) e ∙ sym d)

pub returns-in-Slack-clause-passed : goal.returns-in-Slack-clause-passed
returns-in-Slack-clause-passed g c =
    subst (λ a. IfErr c.unit_cost.result (PassesIn (PriceTerms c.args.cost c.args.duals.now a)))
    (slack_entries (c.in-Slack.i - 1) _ _ _ _ c.slack_sign.ensures c.kind.ensures (entry_is c.args.p.now c.args.state.now c.args.col _ c.requires.state c.requires.present (ap col_of c.in-Slack.is)))
    c.unit_cost.ensures.passed

pub returns-in-Slack-clause-value : goal.returns-in-Slack-clause-value
returns-in-Slack-clause-value g c =
    subst (λ a. IfOk c.unit_cost.result (λ d. d ≡ less_paid c.args.cost c.args.duals.now a))
    (slack_entries (c.in-Slack.i - 1) _ _ _ _ c.slack_sign.ensures c.kind.ensures (entry_is c.args.p.now c.args.state.now c.args.col _ c.requires.state c.requires.present (ap col_of c.in-Slack.is)))
    c.unit_cost.ensures.value

pub returns-in-Artificial-clause-passed : goal.returns-in-Artificial-clause-passed
returns-in-Artificial-clause-passed g c =
    subst (λ a. IfErr c.unit_cost-in-Artificial.result (PassesIn (PriceTerms c.args.cost c.args.duals.now a)))
    (sign_entries (c.in-Artificial.i - 1) _ _ _ _ c.sign.ensures c.negative.ensures (entry_is c.args.p.now c.args.state.now c.args.col _ c.requires.state c.requires.present (ap col_of c.in-Artificial.is)))
    c.unit_cost-in-Artificial.ensures.passed

pub returns-in-Artificial-clause-value : goal.returns-in-Artificial-clause-value
returns-in-Artificial-clause-value g c =
    subst (λ a. IfOk c.unit_cost-in-Artificial.result (λ d. d ≡ less_paid c.args.cost c.args.duals.now a))
    (sign_entries (c.in-Artificial.i - 1) _ _ _ _ c.sign.ensures c.negative.ensures (entry_is c.args.p.now c.args.state.now c.args.col _ c.requires.state c.requires.present (ap col_of c.in-Artificial.is)))
    c.unit_cost-in-Artificial.ensures.value
