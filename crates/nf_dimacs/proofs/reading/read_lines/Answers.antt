use Rattle.std.proofs.Common.{◌≡◌, ◌≤◌, ℕ, List, [], ◌∷◌, arith, inl, inr, map, length, sym, subst}
use Rattle.std.proofs.lemmas.List.{length-map}
use Rattle.std.proofs.lemmas.Result.{err_from_is_err_and}
use Rattle.nf_dimacs.specs.declared.line.Line.{Line}
use Rattle.nf_dimacs.specs.declared.reading.Reading.{Reading}
use Rattle.nf_io.specs.Held.{most_bytes}
use Rattle.nf_dimacs.specs.Lines.{lines_of}
use Rattle.nf_dimacs.specs.Progress.{ReadOn}
use Rattle.nf_dimacs.specs.Says.{said, said_by}
use Rattle.nf_dimacs.proofs.LineFacts.{few-lines}
use Rattle.nf_dimacs.proofs.ReadFacts.{read-none, read-more, refused, read-all, sound-all, refused-all}
use Rattle.nf_dimacs.proofs.reading.read_lines.Goals as goal

pub loop-line-init : goal.loop-line-init
loop-line-init c =
    let few : length (said_by c.args.text.now) ≤ most_bytes = omega (arith, length-map (lines_of c.args.text.now) said, few-lines c.args.text.now, c.requires.size) in
    subst (λ (ls : List (List ℕ)). ReadOn (said_by c.args.text.now) (map said ls) c.new-reading.result) (sym c.new-lines.ensures)
    (read-none (said_by c.args.text.now) c.new-reading.result c.new-reading.ensures.read c.new-reading.ensures.small few)

-- the next line is the first of those to come
next-on : (all : List Line) (r : Reading) (lines rest : List (List ℕ)) (line : List ℕ) (l : Line) → lines ≡ line ∷ rest → l ≡ said line → ReadOn all (map said lines) r → ReadOn all (l ∷ map said rest) r
next-on all r lines rest line l first is on =
    subst (λ (m : Line). ReadOn all (m ∷ map said rest) r) (sym is) (subst (λ (ls : List (List ℕ)). ReadOn all (map said ls) r) first on)

pub loop-line-preserved : goal.loop-line-preserved
loop-line-preserved c =
    let on = next-on (said_by c.args.text.now) c.loop-line.reading c.loop-line.lines c.advance.new.self c.in-Some.line.now c.of.result c.in-Some.ensures c.of.ensures c.loop-line.invariant in
    read-more (said_by c.args.text.now) (map said c.advance.new.self) c.of.result c.loop-line.reading on c.read.new.self c.in_ok-read.ensures.sound c.in_ok-read.ensures.read c.in_ok-read.ensures.small

pub returns-in_err-read-clause-fault : goal.returns-in_err-read-clause-fault
returns-in_err-read-clause-fault c =
    let on = next-on (said_by c.args.text.now) c.loop-line.reading c.loop-line.lines c.advance.new.self c.in-Some.line.now c.of.result c.in-Some.ensures c.of.ensures c.loop-line.invariant in
    let p = err_from_is_err_and c.from_residual.result c.from_residual.ensures.1 in
    rw (p.1, p.2) (elim c.in_err-read.ensures.fault [ inl m ↦ inl m | inr e ↦ inr (refused (said_by c.args.text.now) (map said c.advance.new.self) c.of.result c.loop-line.reading on _ e) ])

at-end : (all : List Line) (r : Reading) (lines : List (List ℕ)) → lines ≡ [] → ReadOn all (map said lines) r → ReadOn all [] r
at-end all r lines none on = subst (λ (ls : List (List ℕ)). ReadOn all (map said ls) r) none on

pub returns-in_err-end-clause-fault : goal.returns-in_err-end-clause-fault
returns-in_err-end-clause-fault c =
    let on = at-end (said_by c.args.text.now) c.loop-line.reading c.loop-line.lines c.in_default.ensures c.loop-line.invariant in
    let p = err_from_is_err_and c.from_residual-in_err-end.result c.from_residual-in_err-end.ensures.1 in
    rw (p.1, p.2) (inr (refused-all (said_by c.args.text.now) c.loop-line.reading on _ c.in_err-end.ensures.fault))

pub returns-clause-sound : goal.returns-clause-sound
returns-clause-sound c =
    let on = at-end (said_by c.args.text.now) c.loop-line.reading c.loop-line.lines c.in_default.ensures c.loop-line.invariant in
    sound-all (said_by c.args.text.now) c.loop-line.reading on c.in_ok-end.ensures.sound

pub returns-clause-read : goal.returns-clause-read
returns-clause-read c =
    let on = at-end (said_by c.args.text.now) c.loop-line.reading c.loop-line.lines c.in_default.ensures c.loop-line.invariant in
    read-all (said_by c.args.text.now) c.loop-line.reading on
