-- One more statement of a listing, and where it stops.
use Rattle.std.proofs.Common.{◌≡◌, ◌∙◌, ◌++◌, ◌∷◌, ◌+◌, ◌<◌, ◌≤◌, inl, inr, ℕ, Bool, true, false, List, [], Option, Some, None, length, take, drop, get_or, refl, sym, ap, subst, arith, append-nil, append_assoc, length-append}
use Rattle.std.specs.List.{list_all}
use Rattle.std.proofs.lemmas.List.{take-append-drop, take_more}
use Rattle.std.proofs.lemmas.List.Folds.{list_all_at}
use Rattle.std.proofs.lemmas.Grind.{flat_map-append}
use Rattle.std.proofs.Math.Seq.{take-length, take-append-add}
use Rattle.std.specs.Io.KnownBytes.{Appends}
use Rattle.nf_io.specs.Causes.{Rose}
use Rattle.nf_io.specs.Progress.{PutPrefix}
use Rattle.nf_io.proofs.KnownFacts.{appends-more}
use Rattle.nf_model.specs.Program.{LinearProgram}
use Rattle.nf_simplex.specs.Standing.{Standing}
use Rattle.nf_simplex.specs.Moves.{IsFirstState}
use Rattle.nf_program.specs.declared.program.SessionOptions.{SessionOptions}
use Rattle.nf_program.specs.declared.program.Statement.{Statement}
use Rattle.nf_program.specs.declared.program.Statement.TheVariants as act
use Rattle.nf_run.specs.declared.event.RunFault.{RunFault}
use Rattle.nf_run.specs.declared.event.RunFault.TheVariants as fault
use Rattle.nf_run.specs.declared.line.HaltLine.{HaltLine}
use Rattle.nf_run.specs.Runs.{AreExplained, Event, Follows, Lists, SaysAt, event_lines, listing_of, opened}
use Rattle.nf_run.specs.Turns.{Gives, Spot}
use Rattle.nf_io.specs.Held.{Held}
use Rattle.nf_prob.specs.declared.cert.Cert.{Cert}
use Rattle.nf_prob.specs.declared.cert.Cert.TheVariants as cert
use Rattle.nf_prob.specs.Verdict.{HasLengths}
use Rattle.std.specs.Prelude.{IfSome}
use Rattle.nf_run.specs.declared.line.HaltLine.TheVariants as line
use Rattle.nf_run.specs.Endings.{Ends, EndsPart, HasProof, IsDue, IsEndFault, last_of}
use Rattle.nf_run.specs.Steps.{At, HasListed, IsObeyFault, IsOpeningFault, KeepsProof, Obeys, WritesPart}
use Rattle.nf_run.specs.Stops.{IsListing, ListsAll, ListsFront, ListsPart, StopsWith, is_standing}
use Rattle.nf_run.specs.Verdicts.{Proves, TellsVerdict}
use Rattle.nf_certify.specs.Certificates.{IsValid}
use Rattle.nf_certify.proofs.Valid.{valid_lengths}

-- ---- what was written
pub appends_nothing : (o : Option (List ℕ)) → Appends o o []
appends_nothing None = tt
appends_nothing (Some x) = sym (append-nil x)

take_whole : {A : Type 0} (xs : List A) → take (length xs) xs ≡ xs
take_whole xs = take-length xs

pub put_whole : (old new : Option (List ℕ)) (text : List ℕ) → Appends old new text → PutPrefix old new text
put_whole old new text h = (length text, omega arith, subst (Appends old new) (sym (take_whole text)) h)

pub put_after : (old mid new : Option (List ℕ)) (text more : List ℕ) → Appends old mid text → PutPrefix mid new more → PutPrefix old new (text ++ more)
put_after old mid new text more h k = (
  length text + k.0,
  subst (λ n. length text + k.0 ≤ n) (sym (length-append text more)) (let l = k.1 in omega arith),
  subst (Appends old new) (sym (take-append-add text more k.0)) (appends-more old mid new text (take k.0 more) h k.2),
)

-- ---- events
follows_run : (p : LinearProgram) (o : SessionOptions) (a m b : Spot) (acts : List Statement) (events : List Event) (line : HaltLine) → Follows p o a acts events m → Gives p o m line b
    → Follows p o a (acts ++ act.Run ∷ []) (events ++ record { before = m; line = line; after = b } ∷ []) b
follows_run p o a m b [] events line f g =
    let e : Event = record { before = m; line = line; after = b } in
    let one : Follows p o a (act.Run ∷ []) (e ∷ []) b = (f.1, subst (λ x. Gives p o x line b) f.1 g, (refl, refl)) in
    subst (λ v. Follows p o a (act.Run ∷ []) (v ++ e ∷ []) b) (sym f.0) one
follows_run p o a m b (act.Run ∷ acts) [] line f g = absurd f
follows_run p o a m b (act.Run ∷ acts) (e ∷ events) line f g = (f.0, f.1, follows_run p o e.after m b acts events line f.2 g)
follows_run p o a m b (act.Quit ∷ acts) events line f g = follows_run p o a m b acts events line f g
follows_run p o a m b (act.Pivot ∷ acts) events line f g = absurd f
follows_run p o a m b (act.Reset items ∷ acts) events line f g = absurd f
follows_run p o a m b (act.Print items ∷ acts) events line f g = absurd f
follows_run p o a m b (act.Show items ∷ acts) events line f g = absurd f
follows_run p o a m b (act.Save items ∷ acts) events line f g = absurd f

follows_quit : (p : LinearProgram) (o : SessionOptions) (a m : Spot) (acts : List Statement) (events : List Event) → Follows p o a acts events m → Follows p o a (acts ++ act.Quit ∷ []) events m
follows_quit p o a m [] events f = f
follows_quit p o a m (act.Run ∷ acts) [] f = absurd f
follows_quit p o a m (act.Run ∷ acts) (e ∷ events) f = (f.0, f.1, follows_quit p o e.after m acts events f.2)
follows_quit p o a m (act.Quit ∷ acts) events f = follows_quit p o a m acts events f
follows_quit p o a m (act.Pivot ∷ acts) events f = absurd f
follows_quit p o a m (act.Reset items ∷ acts) events f = absurd f
follows_quit p o a m (act.Print items ∷ acts) events f = absurd f
follows_quit p o a m (act.Show items ∷ acts) events f = absurd f
follows_quit p o a m (act.Save items ∷ acts) events f = absurd f

explained_more : (p : LinearProgram) (o : SessionOptions) (events : List Event) (e : Event) → AreExplained p o events → SaysAt p o e.after e.line → AreExplained p o (events ++ e ∷ [])
explained_more p o [] e h k = (k, tt)
explained_more p o (x ∷ events) e h k = (h.0, explained_more p o events e h.1 k)

listing_more : (events : List Event) (e : Event) → listing_of (events ++ e ∷ []) ≡ listing_of events ++ event_lines e.line e.after
listing_more events e =
    flat_map-append (λ (x : Event). event_lines x.line x.after) events (e ∷ []) ∙ ap (λ v. listing_of events ++ v) (append-nil (event_lines e.line e.after))

-- ---- listings
abbrev pub lists_none : (p : LinearProgram) (o : SessionOptions) (s : Standing) → IsFirstState p s → Lists p o [] (opened s) []
lists_none p o s first = record { start = s; first = first; events = []; follows = (refl, refl); listed = refl; explained = tt }

abbrev lists_run : (p : LinearProgram) (o : SessionOptions) (acts : List Statement) (m b : Spot) (text : List ℕ) (line : HaltLine) → Lists p o acts m text → Gives p o m line b → SaysAt p o b line
    → Lists p o (acts ++ act.Run ∷ []) b (text ++ event_lines line b)
lists_run p o acts m b text line l g says =
    let e : Event = record { before = m; line = line; after = b } in
    record {
      start = l.start;
      first = l.first;
      events = l.events ++ e ∷ [];
      follows = follows_run p o (opened l.start) m b acts l.events line l.follows g;
      listed = ap (λ v. v ++ event_lines line b) l.listed ∙ sym (listing_more l.events e);
      explained = explained_more p o l.events e l.explained says;
    }

abbrev lists_quit : (p : LinearProgram) (o : SessionOptions) (acts : List Statement) (m : Spot) (text : List ℕ) → Lists p o acts m text → Lists p o (acts ++ act.Quit ∷ []) m text
lists_quit p o acts m text l = record {
  start = l.start;
  first = l.first;
  events = l.events;
  follows = follows_quit p o (opened l.start) m acts l.events l.follows;
  listed = l.listed;
  explained = l.explained;
}

-- ---- the last verdict
pub last_more : (events : List Event) (e : Event) → last_of (events ++ e ∷ []) ≡ Some e
unfolding last_of
last_more [] e = refl
last_more (x ∷ []) e = refl
last_more (x ∷ y ∷ events) e = last_more (y ∷ events) e

pub proof_none : (p : LinearProgram) → HasProof p [] None
unfolding last_of
proof_none p = λ e q t. let none : None ≡ Some e = q in cc

pub proof_more : (p : LinearProgram) (events : List Event) (e : Event) (proof : Option Cert) → KeepsProof p e.after.point.standing e.line proof → HasProof p (events ++ e ∷ []) proof
proof_more p events e (Some c) k = (e, last_more events e, k)
proof_more p events e None k = λ f q t.
    let both : Some e ≡ Some f = sym (last_more events e) ∙ q in
    let same : e ≡ f = cc in
    k (subst (λ (x : Event). TellsVerdict x.line) (sym same) t)

proves_valid : (p : LinearProgram) (c : Cert) (told : HaltLine) → Proves p c told → IsValid p c
proves_valid p (cert.Best flows duals) (line.Optimal f) h = h.0
proves_valid p (cert.Best flows duals) (line.Infeasible f) h = absurd h
proves_valid p (cert.Best flows duals) (line.Unbounded f) h = absurd h
proves_valid p (cert.Best flows duals) (line.Limit stage most) h = absurd h
proves_valid p (cert.Best flows duals) (line.Pause stage) h = absurd h
proves_valid p (cert.Best flows duals) line.Feasible h = absurd h
proves_valid p (cert.Farkas duals) (line.Infeasible f) h = h.0
proves_valid p (cert.Farkas duals) (line.Optimal f) h = absurd h
proves_valid p (cert.Farkas duals) (line.Unbounded f) h = absurd h
proves_valid p (cert.Farkas duals) (line.Limit stage most) h = absurd h
proves_valid p (cert.Farkas duals) (line.Pause stage) h = absurd h
proves_valid p (cert.Farkas duals) line.Feasible h = absurd h
proves_valid p (cert.Ray flows ray) (line.Unbounded f) h = h.0
proves_valid p (cert.Ray flows ray) (line.Optimal f) h = absurd h
proves_valid p (cert.Ray flows ray) (line.Infeasible f) h = absurd h
proves_valid p (cert.Ray flows ray) (line.Limit stage most) h = absurd h
proves_valid p (cert.Ray flows ray) (line.Pause stage) h = absurd h
proves_valid p (cert.Ray flows ray) line.Feasible h = absurd h

pub proof_lengths : (p : LinearProgram) (events : List Event) (proof : Option Cert) → HasProof p events proof → IfSome proof (HasLengths p)
proof_lengths p events (Some c) h = valid_lengths p c (proves_valid p c h.0.line h.2.1.proves)
proof_lengths p events None h = tt

-- ---- listings with the last verdict
pub listed_none : (p : LinearProgram) (o : SessionOptions) (s : Standing) (old : Option (List ℕ)) → IsFirstState p s → HasListed p o [] (record { spot = opened s; proof = None }) old old
listed_none p o s old first = ([], lists_none p o s first, proof_none p, appends_nothing old)

listed_more : (p : LinearProgram) (o : SessionOptions) (acts : List Statement) (a : Statement) (m b : At) (old mid new : Option (List ℕ)) → is_standing a ≡ true
    → HasListed p o acts m old mid → Obeys p o a m b mid new → HasListed p o (acts ++ a ∷ []) b old new
listed_more p o acts act.Run m b old mid new e h (line, g, says, keeps, w) = (
  h.0 ++ event_lines line b.spot,
  lists_run p o acts m.spot b.spot h.0 line h.1 g says,
  proof_more p h.1.events (record { before = m.spot; line = line; after = b.spot }) b.proof keeps,
  appends-more old mid new h.0 (event_lines line b.spot) h.3 w,
)
listed_more p o acts act.Quit m b old mid new e h (same, still) = rw (same, still) (h.0, lists_quit p o acts m.spot h.0 h.1, h.2, h.3)
listed_more p o acts act.Pivot m b old mid new e h k = cc e
listed_more p o acts (act.Reset items) m b old mid new e h k = cc e
listed_more p o acts (act.Print items) m b old mid new e h k = cc e
listed_more p o acts (act.Show items) m b old mid new e h k = cc e
listed_more p o acts (act.Save items) m b old mid new e h k = cc e

-- ---- a list at one of its places
take_next : {A : Type 0} (xs : List A) (i : ℕ) (x : A) → i < length xs → x ≡ get_or xs i x → take (i + 1) xs ≡ take i xs ++ x ∷ []
take_next xs i x h e = take_more xs i x h ∙ ap (λ v. take i xs ++ v ∷ []) (sym e)

split_after : {A : Type 0} (xs : List A) (i : ℕ) → xs ≡ take i xs ++ drop i xs
split_after xs i = sym (take-append-drop i xs)

split_at_place : {A : Type 0} (xs : List A) (i : ℕ) (x : A) → i < length xs → x ≡ get_or xs i x → xs ≡ take i xs ++ x ∷ drop (i + 1) xs
split_at_place xs i x h e = split_after xs (i + 1) ∙ ap (λ v. v ++ drop (i + 1) xs) (take_next xs i x h e) ∙ append_assoc (take i xs) (x ∷ []) (drop (i + 1) xs)

stands_at : (acts : List Statement) (i : ℕ) (a : Statement) → list_all is_standing acts ≡ true → i < length acts → a ≡ get_or acts i a → is_standing a ≡ true
stands_at acts i a all h e = ap is_standing e ∙ test (is_standing (get_or acts i a)) refl
  where
    test : (b : Bool) → is_standing (get_or acts i a) ≡ b → is_standing (get_or acts i a) ≡ true
    test true q = q
    test false q = let k = list_all_at is_standing acts i a h q in cc

-- the loop's next statement
pub listed_next : (p : LinearProgram) (o : SessionOptions) (acts : List Statement) (i : ℕ) (a : Statement) (m b : At) (old mid new : Option (List ℕ)) → list_all is_standing acts ≡ true
    → i < length acts → a ≡ get_or acts i a → HasListed p o (take i acts) m old mid → Obeys p o a m b mid new → HasListed p o (take (i + 1) acts) b old new
listed_next p o acts i a m b old mid new all h e l k =
    subst (λ v. HasListed p o v b old new) (sym (take_next acts i a h e)) (listed_more p o (take i acts) a m b old mid new (stands_at acts i a all h e) l k)

-- all statements are obeyed
pub listed_whole : (p : LinearProgram) (o : SessionOptions) (acts : List Statement) (i : ℕ) (b : At) (old new : Option (List ℕ)) → length acts ≤ i → i ≤ length acts → HasListed p o (take i acts) b old new → HasListed p o acts b old new
listed_whole p o acts i b old new h k l =
    let e : i ≡ length acts = omega arith in
    subst (λ v. HasListed p o v b old new) (ap (λ n. take n acts) e ∙ take-length acts) l

later_rose : (a b c : ℕ) → a ≤ b → Rose b c → Rose a c
later_rose a b c h k = omega (arith, h, k)

-- ---- the end
module _ (p : LinearProgram) (o : SessionOptions) (acts : List Statement) (certout : Option (List ℕ)) (b : At) (old mid : Option (List ℕ)) (l : HasListed p o acts b old mid) where
  listing : (stored : Option (List ℕ)) (text : List ℕ) → IsDue p certout b.proof stored text → IsListing p o acts certout stored (l.0 ++ text)
  listing stored text due = record { last = b.spot; told = l.0; lists = l.1; proof = b.proof; proved = l.2; ending = text; due = due; whole = refl }

  pub ends_all : (new : Option (List ℕ)) (held now : Option Held) → Ends p certout b.proof mid new held now → ListsAll p o acts certout old new held now
  ends_all new held now (stored, text, due, w, s) = (stored, l.0 ++ text, listing stored text due, appends-more old mid new l.0 text l.3 w, s)

  ends_part : (new : Option (List ℕ)) (held now : Option Held) → EndsPart p certout b.proof mid new held now → ListsPart p o acts certout old new held now
  ends_part new held now (stored, text, due, w, s) = (stored, l.0 ++ text, listing stored text due, put_after old mid new l.0 text l.3 w, s)

  pub end_fails : (new : Option (List ℕ)) (before then after : ℕ) (held now : Option Held) (stores stores_after : ℕ) (f : RunFault) → before ≤ then
      → IsEndFault p certout b.proof mid new then after held now stores stores_after f → StopsWith p o acts certout old new before after held now stores stores_after f
  end_fails new before then after held now stores stores_after (fault.Range stage pivots passed) later h = absurd h
  end_fails new before then after held now stores stores_after fault.Write later (inl h) = inl (later_rose before then after later h.0, inr (ends_part new held now h.1))
  end_fails new before then after held now stores stores_after fault.Write later (inr h) =
      inr (h.0, record { last = b.spot; text = l.0; lists = l.1; proof = b.proof; proved = l.2; listed = subst (λ v. Appends old v l.0) (sym h.1) l.3; fails = h.2 })
  end_fails new before then after held now stores stores_after fault.NoMemory later (inl h) =
      inl (l.0, inr (acts, [], b.spot, sym (append-nil acts), l.1), put_whole old new l.0 (subst (λ v. Appends old v l.0) (sym h.0) l.3), h.1)
  end_fails new before then after held now stores stores_after fault.NoMemory later (inr h) = inr (ends_part new held now h)

-- ---- where a statement stops
writes_front : (p : LinearProgram) (o : SessionOptions) (acts : List Statement) (i : ℕ) (m : At) (old mid new : Option (List ℕ)) (held : Option Held) → i < length acts → act.Run ≡ get_or acts i act.Run
    → HasListed p o (take i acts) m old mid → WritesPart p o m.spot mid new → ListsFront p o acts old new held held
writes_front p o acts i m old mid new held h e l (line, b, g, says, w) =
    let now : Lists p o (take (i + 1) acts) b (l.0 ++ event_lines line b) =
    subst (λ v. Lists p o v b (l.0 ++ event_lines line b)) (sym (take_next acts i act.Run h e)) (lists_run p o (take i acts) m.spot b l.0 line l.1 g says) in
    (l.0 ++ event_lines line b, inr (take (i + 1) acts, drop (i + 1) acts, b, split_after acts (i + 1), now), put_after old mid new l.0 (event_lines line b) l.3 w, refl)

-- the statement that fails
pub stops_at : (p : LinearProgram) (o : SessionOptions) (acts : List Statement) (certout : Option (List ℕ)) (i : ℕ) (a : Statement) (m : At) (old mid new : Option (List ℕ)) (before then after : ℕ) (held : Option Held) (stores : ℕ) (f : RunFault)
    → i < length acts → a ≡ get_or acts i a → before ≤ then → HasListed p o (take i acts) m old mid → IsObeyFault p o a m.spot mid new then after f → StopsWith p o acts certout old new before after held held stores stores f
stops_at p o acts certout i act.Run m old mid new before then after held stores (fault.Range stage pivots passed) h e later l k =
    (l.0, inr (take i acts, drop (i + 1) acts, m.spot, split_at_place acts i act.Run h e, l.1, k.0), subst (λ v. Appends old v l.0) (sym k.1) l.3, refl)
stops_at p o acts certout i act.Run m old mid new before then after held stores fault.Write h e later l k = inl (later_rose before then after later k.0, inl (writes_front p o acts i m old mid new held h e l k.1))
stops_at p o acts certout i act.Run m old mid new before then after held stores fault.NoMemory h e later l (inl k) =
    inl (l.0, inr (take i acts, drop i acts, m.spot, split_after acts i, l.1), put_whole old new l.0 (subst (λ v. Appends old v l.0) (sym k) l.3), refl)
stops_at p o acts certout i act.Run m old mid new before then after held stores fault.NoMemory h e later l (inr k) = inl (writes_front p o acts i m old mid new held h e l k)
stops_at p o acts certout i act.Quit m old mid new before then after held stores f h e later l k = absurd k
stops_at p o acts certout i act.Pivot m old mid new before then after held stores f h e later l k = absurd k
stops_at p o acts certout i (act.Reset items) m old mid new before then after held stores f h e later l k = absurd k
stops_at p o acts certout i (act.Print items) m old mid new before then after held stores f h e later l k = absurd k
stops_at p o acts certout i (act.Show items) m old mid new before then after held stores f h e later l k = absurd k
stops_at p o acts certout i (act.Save items) m old mid new before then after held stores f h e later l k = absurd k

-- the opening fails
pub stops_opening : (p : LinearProgram) (o : SessionOptions) (acts : List Statement) (certout old : Option (List ℕ)) (n : ℕ) (held : Option Held) (stores : ℕ) (f : RunFault) → IsOpeningFault p f → StopsWith p o acts certout old old n n held held stores stores f
stops_opening p o acts certout old n held stores (fault.Range stage pivots passed) h = ([], inl (refl, h.0, h.1, h.2), appends_nothing old, refl)
stops_opening p o acts certout old n held stores fault.Write h = absurd h
stops_opening p o acts certout old n held stores fault.NoMemory h = inl ([], inl refl, put_whole old old [] (appends_nothing old), refl)
