-- The options: what the pass finds is what the gifts so far say.
use Rattle.std.proofs.Common.{◌≡◌, ◌++◌, ◌⊎◌, ℕ, Bool, true, false, not, List, Option, Some, None, length, get_or, refl, sym, ap, ◌∙◌, inl, inr, arith}
use Rattle.std.proofs.lemmas.Bool.{false≢true, cases_Bool}
use Rattle.std.proofs.lemmas.List.{append-nil}
use Rattle.nf_frac.specs.declared.amount.Amount.{Amount}
use Rattle.std.specs.Bool.{nat_lt}
use Rattle.nf_cells.specs.Names.{Name, has_name, number_of, place_of}
use Rattle.nf_cells.proofs.SeenFacts.{place-less, there}
use Rattle.nf_program.specs.declared.program.Role.TheVariants as role
use Rattle.nf_program.specs.declared.program.SetName.TheVariants as set
use Rattle.nf_roles.specs.declared.fault.CellFault.{CellFault}
use Rattle.nf_cells.specs.declared.values.Cell.TheVariants.{Is}
use Rattle.nf_cells.specs.declared.values.Supply.TheVariants as supply
use Rattle.nf_roles.specs.declared.fault.DataFault.{DataFault}
use Rattle.nf_roles.specs.declared.fault.DataKind.{DataKind}
use Rattle.nf_roles.specs.declared.fault.DataKind.TheVariants as kind
use Rattle.nf_roles.specs.First.{first_of, or_else}
use Rattle.nf_network.specs.Arcs.{Gift, given}
use Rattle.nf_network.specs.Faults.{gift_faults, is_other}
use Rattle.nf_network.specs.NodeData.{option_fault, option_faults, option_gift}
use Rattle.nf_network.specs.Nodes.{NodeList, given_at}
use Rattle.nf_network.specs.Given.{IsGiven}
use Rattle.nf_network.specs.Pass.{Stands}
use Rattle.nf_network.specs.OptionPass.{option_fault_now, option_given}
use Rattle.nf_network.proofs.NodeFacts.{stands-gift, stands-given}
use Rattle.nf_network.proofs.PassFacts.{clear-gift}

no-fault : (b : Bool) (column : Name) (q : DataKind) → option_fault b column q ≡ None → b ≡ false
no-fault false column q h = refl
no-fault true column q h = absurd (cc)

first : (a b : Option DataFault) → or_else a b ≡ None → a ≡ None
first None b h = refl
first (Some x) b h = absurd (cc)

second : (a b : Option DataFault) → or_else a b ≡ None → b ≡ None
second None b h = h
second (Some x) b h = absurd (cc)

module _ (ns : NodeList) (named : List Name) (gs : List Gift) (s : Stands ns named gs) (column : Name) where
  -- the fault is the same, by the nodes so far and by the gifts so far
  pub option-same : (n : Option Name) (a : Option Amount) → option_fault_now ns column n a ≡ option_faults ns.names column n gs (option_gift n a)
  option-same None a = refl
  option-same (Some n) None = refl
  option-same (Some n) (Some a) = by_cases (cases_Bool (has_name n ns.names))
    where
      by_cases : (has_name n ns.names ≡ true) ⊎ (has_name n ns.names ≡ false)
          → or_else (option_fault (not (has_name n ns.names)) column kind.UnknownSource) (option_fault (is_other (given_at ns n) (Is (supply.Amount a))) column kind.TwoSupplies)
          ≡ or_else (option_fault (not (has_name n ns.names)) column kind.UnknownSource) (option_fault (is_other (given gs n) (Is (supply.Amount a))) column kind.TwoSupplies)
      by_cases (inl there) = rw (stands-given ns named gs n s there) refl
      by_cases (inr absent) = rw absent refl

  -- the nodes stand for one gift more
  pub option-stands : (n : Option Name) (a : Option Amount) → option_fault_now ns column n a ≡ None → Stands (option_given ns n a) named (gs ++ option_gift n a)
  option-stands None a h = rw (append-nil gs) s
  option-stands (Some n) None h = rw (append-nil gs) s
  option-stands (Some n) (Some a) h =
      let there : has_name n ns.names ≡ true = named-there (has_name n ns.names) (no-fault (not (has_name n ns.names)) column kind.UnknownSource (first _ _ h)) in
      let other : is_other (given gs n) (Is (supply.Amount a)) ≡ false =
      ap (λ v. is_other v (Is (supply.Amount a))) (sym (stands-given ns named gs n s there)) ∙ no-fault (is_other (given_at ns n) (Is (supply.Amount a))) column kind.TwoSupplies (second _ _ h) in
      stands-gift ns named gs n (Is (supply.Amount a)) s there other
    where
      named-there : (b : Bool) → not b ≡ false → b ≡ true
      named-there true e = refl
      named-there false e = absurd (false≢true (sym e))

-- ---- what one option answers
known : (n : Name) (ks : List Name) (i : ℕ) → Some i ≡ number_of n ks → (i ≡ place_of n ks) × (has_name n ks ≡ true)
known n ks i h = there n ks i (sym h)

unnamed : (n : Name) (ks : List Name) → None ≡ number_of n ks → has_name n ks ≡ false
unnamed n ks h = by_cases (cases_Bool (has_name n ks))
  where
    by_cases : (has_name n ks ≡ true) ⊎ (has_name n ks ≡ false) → has_name n ks ≡ false
    by_cases (inl e) =
        let less : nat_lt (place_of n ks) (length ks) ≡ true = grind (arith, place-less n ks e) in
        let some : number_of n ks ≡ Some (place_of n ks) = rw less refl in
        let bad : None ≡ Some (place_of n ks) = h ∙ some in
        absurd (cc)
    by_cases (inr e) = e

pub option-unknown : (ns : NodeList) (column n : Name) (q : Option Name) (a : Option Amount) → q ≡ Some n → None ≡ number_of n ns.names
    → option_fault_now ns column q a ≡ Some (record { set = set.Proc; row = 0; column = column; kind = kind.UnknownSource })
option-unknown ns column n q a is h = rw (is, unnamed n ns.names h) refl

pub option-alone : (ns : NodeList) (column n : Name) (q : Option Name) (a : Option Amount) (i : ℕ) → q ≡ Some n → a ≡ None → Some i ≡ number_of n ns.names
    → (option_fault_now ns column q a ≡ None) × (ns ≡ option_given ns q a)
option-alone ns column n q a i is none h = rw (is, none, (known n ns.names i h).1) (refl, refl)

pub option-taken : (ns : NodeList) (column n : Name) (q : Option Name) (b : Option Amount) (a : Amount) (i : ℕ) (new : NodeList) → q ≡ Some n → b ≡ Some a → Some i ≡ number_of n ns.names
    → IsGiven role.Supply ns i (Is (supply.Amount a)) new → (option_fault_now ns column q b ≡ None) × (new ≡ option_given ns q b)
option-taken ns column n q b a i new is some h g =
    let k = known n ns.names i h in
    let other : is_other (given_at ns n) (Is (supply.Amount a)) ≡ false = rw k.0 at (clear-gift role.Supply (get_or ns.given i None) (Is (supply.Amount a)) g.clear) in
    (rw (is, some, k.1, other) refl, rw (is, some) (rw k.0 at g.nodes))

pub option-other : (ns : NodeList) (column n : Name) (q : Option Name) (b : Option Amount) (a : Amount) (i : ℕ) (f : CellFault) → q ≡ Some n → b ≡ Some a → Some i ≡ number_of n ns.names
    → first_of (gift_faults role.Supply (get_or ns.given i None) (Is (supply.Amount a))) ≡ Some f
    → option_fault_now ns column q b ≡ Some (record { set = set.Proc; row = 0; column = column; kind = kind.TwoSupplies })
option-other ns column n q b a i f is some h g = by_cases (cases_Bool (is_other (get_or ns.given i None) (Is (supply.Amount a))))
  where
    by_cases : (is_other (get_or ns.given i None) (Is (supply.Amount a)) ≡ true) ⊎ (is_other (get_or ns.given i None) (Is (supply.Amount a)) ≡ false)
        → option_fault_now ns column q b ≡ Some (record { set = set.Proc; row = 0; column = column; kind = kind.TwoSupplies })
    by_cases (inl e) =
        let k = known n ns.names i h in
        let other : is_other (given_at ns n) (Is (supply.Amount a)) ≡ true = rw k.0 at e in
        rw (is, some, k.1, other) refl
    by_cases (inr e) = let bad : None ≡ Some f = rw e at g in absurd (cc)
