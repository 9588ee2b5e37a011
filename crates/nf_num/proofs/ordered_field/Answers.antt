use Rattle.std.proofs.Common.{[], ◌∷◌, refl}
use Rattle.nf_num.proofs.Laws as law
use Rattle.nf_num.proofs.Field.{ring, codes}
use Rattle.nf_num.proofs.ordered_field.Goals as goal

pub returns : goal.returns
returns c =
    record {
      add_assoc = law.add_assoc;
      add_comm = law.add_comm;
      zero_add = law.zero_add;
      sub_self = λ x. ring (x ∷ []) (search codes) refl;
      mul_assoc = law.mul_assoc;
      mul_comm = law.mul_comm;
      one_mul = law.one_mul;
      mul_inv = law.mul_inv;
      add_mul = law.add_mul;
      le_refl = law.le_refl;
      le_trans = law.le_trans;
      le_antisymm = law.le_antisymm;
      le_or_lt = law.le_or_lt;
      lt_not_le = law.not_le_of_lt;
      zero_lt_one = law.zero_lt_one;
      add_le = law.add_le;
      mul_nonneg = law.mul_nonneg;
    }
