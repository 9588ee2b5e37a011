use Rattle.std.proofs.Common.{◌-◌, [], length, get_or, sym, ap, ap₂, ◌∙◌, arith}
use Rattle.nf_labels.proofs.NodeFacts.{of-length}
use Rattle.nf_labels.proofs.labels.Labels.constraint.Goals as goal

pub overflow_sub-i : goal.overflow_sub-i
overflow_sub-i c =
    let size = sym (of-length _ _ c.self.invariant.one_each) ∙ ap (λ l. length l.nodes) c.self.view_is in
    omega (arith, size, c.len.ensures, c.requires.behind_nodes)

pub overflow_sub-i-2 : goal.overflow_sub-i-2
overflow_sub-i-2 c =
    let size = sym (of-length _ _ c.self.invariant.one_each) ∙ ap (λ l. length l.nodes) c.self.view_is in
    omega (arith, size, c.len.ensures, c.requires.behind_nodes)

pub get-requires : goal.get-requires
get-requires c =
    let size = sym (of-length _ _ c.self.invariant.one_each) ∙ ap (λ l. length l.nodes) c.self.view_is in
    let rows = ap (λ l. length l.constraints) c.self.view_is in
    omega (arith, size, rows, c.len.ensures, c.requires.behind_nodes, c.requires.number)

pub returns : goal.returns
returns c =
    let size = sym (of-length _ _ c.self.invariant.one_each) ∙ ap (λ l. length l.nodes) c.self.view_is in
    record { name = c.get.ensures ∙ ap₂ (λ n l. get_or l.constraints (c.args.i - n - 1) []) (c.len.ensures ∙ size) c.self.view_is }
