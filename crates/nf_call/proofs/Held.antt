-- What a library in memory has after names were given their bytes.
use Rattle.std.proofs.Common.{◌≡◌, ◌∙◌, ℕ, true, false, List, [], Option, None, Some, codes, refl, subst}
use Rattle.std.specs.Str.{bytes_eq}
use Rattle.nf_io.specs.Held.{Given, Held, found}
use Rattle.nf_command.specs.declared.size.SampleSize.{SampleSize}
use Rattle.nf_call.specs.declared.trial.SampleTexts.{SampleTexts}
use Rattle.nf_call.specs.Sample.{HoldsSample}
use Rattle.nf_call.specs.Steps.{AreTexts, GivenIfAny, HoldsTexts}

none_found : (h : Held) (name : List ℕ) → h ≡ [] → found h name ≡ None
unfolding found
none_found h name e = rw e refl

-- a name that is given its bytes has them, and another keeps what it had
given_self : (m n : Held) (name : List ℕ) (c : Option (List ℕ)) → GivenIfAny m n name c → found m name ≡ None → bytes_eq name name ≡ true → found n name ≡ c
given_self m n name None e h t = rw e h
given_self m n name (Some bytes) given h t = let e = given name in rw t at e

given_other : (m n : Held) (name q : List ℕ) (c : Option (List ℕ)) → GivenIfAny m n name c → bytes_eq name q ≡ false → found n q ≡ found m q
given_other m n name q None e h = rw e refl
given_other m n name q (Some bytes) given h = let e = given q in rw h at e

pub texts_held : (t : SampleTexts) (h0 h1 h2 h3 : Held) → h0 ≡ [] → Given h0 h1 (codes "arcs") t.arcs → Given h1 h2 (codes "nodes") t.nodes → GivenIfAny h2 h3 (codes "cons") t.cons → HoldsTexts t h3
texts_held t h0 h1 h2 h3 e arcs nodes cons = record {
  arcs = given_other h2 h3 (codes "cons") (codes "arcs") t.cons cons refl ∙ nodes (codes "arcs") ∙ arcs (codes "arcs");
  nodes = given_other h2 h3 (codes "cons") (codes "nodes") t.cons cons refl ∙ nodes (codes "nodes");
  cons = given_self h2 h3 (codes "cons") t.cons cons (nodes (codes "cons") ∙ arcs (codes "cons") ∙ none_found h0 (codes "cons") e) refl;
}

-- a certificate is given
pub texts_stay : (t : SampleTexts) (m n : Held) (bytes : List ℕ) → Given m n (codes "k") bytes → HoldsTexts t m → HoldsTexts t n
texts_stay t m n bytes given holds = record {
  arcs = given (codes "arcs") ∙ holds.arcs;
  nodes = given (codes "nodes") ∙ holds.nodes;
  cons = given (codes "cons") ∙ holds.cons;
}

pub sample_held : (n : SampleSize) (t : SampleTexts) (held : Held) → AreTexts n t → HoldsTexts t held → HoldsSample n held
sample_held n t held texts holds = record {
  tables = texts.tables;
  made = texts.made;
  arcs = subst (λ b. found held (codes "arcs") ≡ Some b) texts.arcs holds.arcs;
  nodes = subst (λ b. found held (codes "nodes") ≡ Some b) texts.nodes holds.nodes;
  cons = holds.cons ∙ texts.cons;
}
