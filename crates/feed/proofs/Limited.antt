-- Making a line of six values: which way each test goes. Assumes nothing.
use Rattle.std.proofs.Common.{◌≡◌, ℕ, ◌<◌, ◌≤◌, Bool, true, false, T, leb, Ok, Err, Result, sym, refl, ap, ◌∙◌, lit≤, le-leb}
use native.Mathlib.Bridge.{le_prop}
use borrow.Author.Tests.{lt-leb}
use Rattle.std.proofs.lemmas.Bool.{true≢false, false≢true}
use Rattle.feed.specs.Limits.{limit}
use Rattle.feed.specs.Lines.{where_holds, limited, line_of}
use Rattle.feed.specs.declared.fields.Field.{Field}
use Rattle.feed.specs.declared.fields.Field.TheVariants.{Time, Kind, Machine, Crew, Run, Reading}
use Rattle.feed.specs.declared.lines.Line.{Line}

fails : {X : Type 0} (test : Bool) (go : T test → X) (x : X) → test ≡ false → where_holds test go x ≡ x
fails true go x e = absurd (true≢false e)
fails false go x e = refl

holds : {X : Type 0} (test : Bool) (go : T test → X) (x y : X) → test ≡ true → ((h : T test) → go h ≡ y) → where_holds test go x ≡ y
holds true go x y e same = same tt
holds false go x y e same = absurd (false≢true e)

over : (f : Field) (n : ℕ) (go : n ≤ limit f → Result Line Field) → limit f < n → limited f n go ≡ Err f
unfolding limited
over f n go h = fails (leb n (limit f)) (λ t. go (lit≤ t)) (Err f) (lt-leb n (limit f) h)

under : (f : Field) (n : ℕ) (go : n ≤ limit f → Result Line Field) (h : n ≤ limit f) → limited f n go ≡ go h
unfolding limited
under f n go h = holds (leb n (limit f)) (λ t. go (lit≤ t)) (Err f) (go h) (le-leb n (limit f) h) (λ t. ap go (le_prop (lit≤ t) h))

module _ (t k m c u r : ℕ) where
  pub over_time : limit Time < t → line_of t k m c u r ≡ Err Time
  unfolding line_of
  over_time h = over Time t _ h

  pub over_kind : t ≤ limit Time → limit Kind < k → line_of t k m c u r ≡ Err Kind
  unfolding line_of
  over_kind ht h = under Time t _ ht ∙ over Kind k _ h

  pub over_machine : t ≤ limit Time → k ≤ limit Kind → limit Machine < m → line_of t k m c u r ≡ Err Machine
  unfolding line_of
  over_machine ht hk h = under Time t _ ht ∙ under Kind k _ hk ∙ over Machine m _ h

  pub over_crew : t ≤ limit Time → k ≤ limit Kind → m ≤ limit Machine → limit Crew < c → line_of t k m c u r ≡ Err Crew
  unfolding line_of
  over_crew ht hk hm h = under Time t _ ht ∙ under Kind k _ hk ∙ under Machine m _ hm ∙ over Crew c _ h

  pub over_run : t ≤ limit Time → k ≤ limit Kind → m ≤ limit Machine → c ≤ limit Crew → limit Run < u → line_of t k m c u r ≡ Err Run
  unfolding line_of
  over_run ht hk hm hc h = under Time t _ ht ∙ under Kind k _ hk ∙ under Machine m _ hm ∙ under Crew c _ hc ∙ over Run u _ h

  pub over_reading : t ≤ limit Time → k ≤ limit Kind → m ≤ limit Machine → c ≤ limit Crew → u ≤ limit Run → limit Reading < r → line_of t k m c u r ≡ Err Reading
  unfolding line_of
  over_reading ht hk hm hc hu h =
      under Time t _ ht ∙ under Kind k _ hk ∙ under Machine m _ hm ∙ under Crew c _ hc ∙ under Run u _ hu ∙ over Reading r _ h

-- a line is that of its values
pub line_of_lem : (l : Line) → Ok l ≡ line_of l.time l.kind l.machine l.crew l.run l.reading
unfolding line_of
line_of_lem l =
    sym (under Time l.time _ l.timed ∙ under Kind l.kind _ l.kinded ∙ under Machine l.machine _ l.machined ∙ under Crew l.crew _ l.crewed ∙ under Run l.run _ l.ran ∙ under Reading l.reading _ l.read)

pub line_of_these : (l : Line) (t k m c u r : ℕ) → l.time ≡ t → l.kind ≡ k → l.machine ≡ m → l.crew ≡ c → l.run ≡ u → l.reading ≡ r → Ok l ≡ line_of t k m c u r
line_of_these l t k m c u r et ek em ec eu er = rw (← et, ← ek, ← em, ← ec, ← eu, ← er) (line_of_lem l)
