-- The entry that stands where a list has room for one more. Nothing that is promised rests on it.
use Rattle.nf_num.specs.Rational.{zero_ℚ}
use Rattle.nf_prob.specs.declared.stored.Entry.{Entry}

abbrev pub blank_entry : Entry
blank_entry = record { row = 0; value = zero_ℚ }
