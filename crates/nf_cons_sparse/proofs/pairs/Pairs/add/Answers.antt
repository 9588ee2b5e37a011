use Rattle.std.proofs.Common.{◌≡◌, ◌∙◌, ◌++◌, ◌∷◌, [], false, ap}
use Rattle.nf_cons_sparse.specs.Sparse.{has_pair}
use Rattle.nf_cons_sparse.proofs.pairs.Pairs.add.Goals as goal

pub returns-clause-added : goal.returns-clause-added
returns-clause-added c = λ new.
    let none : has_pair (c.args.row, c.args.variable) c.self.inside.set.keys ≡ false = ap (has_pair (c.args.row, c.args.variable)) c.self.view_is ∙ new in
    rw none at c.in_ok-is_new.ensures.keys ∙ ap (λ ps. ps ++ (c.args.row, c.args.variable) ∷ []) c.self.view_is
