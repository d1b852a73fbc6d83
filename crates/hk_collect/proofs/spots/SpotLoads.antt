-- The collector loads a word while it looks for objects. No word changes, no flight and no history, nor a claim in hand;
-- the spot goes on. This page has the frames: an attempt begins, goes past its registers, and is lost.
use Rattle.std.proofs.Common.{◌≡◌, ◌≢◌, ℕ, ◌+◌, ◌*◌, ◌<◌, ◌≤◌, Bool, true, false, inl, inr, refl, sym, ◌∙◌, ap, arith, Option}
use Rattle.std.proofs.lemmas.Bool.{cases_eq, eqb-true, eqb-false, ltb-true, ltb-false}
use Rattle.std.specs.Prelude.{nat_eq, nat_lt, if◌then◌else◌}
use Rattle.hk_words.specs.declared.geometry.Geometry.{Geometry}
use Rattle.hk_words.specs.Layout as layout
use Rattle.hk_core.specs.declared.flight.Flight.{Flight}
use Rattle.hk_core.specs.declared.spot.Spot.{Spot}
use Rattle.hk_core.specs.declared.spot.Line.{Line}
use Rattle.hk_core.specs.declared.spot.Line.TheVariants as line
use Rattle.hk_core.specs.declared.spot.Stage.TheVariants as stage
use Rattle.hk_core.specs.Collect.{spot_took, took_at_line, frame_took, register_took, frame_trade_took, after_register, after_frame}
use Rattle.hk_core.specs.View.{Words, Names, Contents}
use Rattle.hk_core.specs.Flights.{no_claim}
use Rattle.hk_core.specs.Lines as l
use Rattle.hk_core.specs.Colours.{spaces_of, Shades, shades_of, IsGood}
use Rattle.hk_core.specs.Facts.{FrameBehind}
use Rattle.hk_core.specs.Lawful.{FactsOf, hands_of}
use Rattle.hk_collect.proofs.spots.Spots.{WorkFacts, on_spot, work_facts, marking_on}
use Rattle.hk_collect.proofs.spots.SpotLines.{AtFrame, InFrame, AtRegister, AtFrameTrade, at_frame, at_register, at_frame_trade, frame_works, register_works, frame_trade_works}
use Rattle.hk_core.proofs.Shared.{never}

-- GOING ON

-- a line on which the collector looks for objects, with no claim in hand
pub record IsQuiet (t : Spot) (ln : Line) : Type 0 where
  pub marking : l.is_marking ln ≡ true
  pub no_hand : l.hand_at_line t ln ≡ no_claim

-- a spot that goes on from one such line to another, with the same cycle, scan offset and entries
pub record GoesQuietly (t other : Spot) (ln : Line) : Type 0 where
  pub from : IsQuiet t ln
  pub to : IsQuiet other other.line
  pub cycle : other.cycle ≡ t.cycle
  pub scan : other.scan ≡ t.scan
  pub entries : other.entries ≡ t.entries

-- what the collector is in the middle of, at another spot
abbrev pub WorkAt : (g : Geometry) (w : Words) (flight : ℕ → Flight) (t : Spot) (names : Names) (range : ℕ → Option ℕ) → Spot → Line → Type 0
WorkAt g w flight t names range other ln = WorkFacts g w (spaces_of g w.cycle) (shades_of g w flight t.line names) flight other names range ln

module _ (g : Geometry) (w : Words) (flight : ℕ → Flight) (begun : ℕ → ℕ) (t : Spot) (names : Names) (contents : Contents) (range : ℕ → Option ℕ)
    (ln : Line) (at : t.line ≡ ln) (h : FactsOf g w flight begun t names contents range) where
  pub work_at : WorkAt g w flight t names range t ln
  work_at = work_facts g w (spaces_of g w.cycle) (shades_of g w flight t.line names) flight begun (hands_of g flight t) t names contents range h ln at

  pub goes_on : (other : Spot) → GoesQuietly t other ln → WorkAt g w flight t names range other other.line → FactsOf g w flight begun other names contents range
  unfolding l.hand_of_spot
  goes_on other o work =
      let marking : l.is_marking t.line ≡ true = ap l.is_marking at ∙ o.from.marking in
      let none : l.hand_of_spot t ≡ no_claim = ap (l.hand_at_line t) at ∙ o.from.no_hand in
      on_spot g w flight begun t other names contents range (o.to.no_hand ∙ sym none) (o.to.marking ∙ sym marking) h
      (marking_on g w (spaces_of g w.cycle) (shades_of g w flight t.line names) flight begun (hands_of g flight t) t names contents range h other
      (record { from = marking; to = o.to.marking; cycle = o.cycle; scan = o.scan; entries = o.entries }) work)

-- what the spot takes at its line
pub took_at : (g : Geometry) (t : Spot) (ln : Line) (old : ℕ) → t.line ≡ ln → spot_took g t old ≡ took_at_line g t old ln
unfolding spot_took
took_at g t ln old at = ap (took_at_line g t old) at

-- THE FRAMES

-- an open attempt is that of another spot with the same loaded word
same_frame : (g : Geometry) (w : Words) (sh : Shades) (t other : Spot) (s gone : ℕ) → other.first ≡ t.first → InFrame g w sh t s gone → InFrame g w sh other s gone
same_frame g w sh t other s gone same o = record {
  at_frame = o.at_frame;
  behind = rw same o.behind;
  passed = rw same o.passed;
}

module _ (g : Geometry) (w : Words) (flight : ℕ → Flight) (begun : ℕ → ℕ) (t : Spot) (names : Names) (contents : Contents) (range : ℕ → Option ℕ)
    (s : ℕ) where
  -- an attempt begins where nobody is inside the frame
  pub frame_loads : (old : ℕ) → t.line ≡ line.Frame s → layout.frame_accessors old ≡ w.frame_accessors s → layout.frame_cycle old ≡ w.frame_cycle s
      → layout.frame_version old ≡ w.frame_version s → FactsOf g w flight begun t names contents range
      → FactsOf g w flight begun (spot_took g t old) names contents range
  unfolding took_at_line frame_took l.is_marking l.hand_at_line l.hand_at l.is_in_work l.stage_rank
  frame_loads old at accessors cycle version h = rw (took_at g t (line.Frame s) old at) (by_test (nat_lt 0 (layout.frame_accessors old)) refl)
    where
      by_test : (busy : Bool) → nat_lt 0 (layout.frame_accessors old) ≡ busy → FactsOf g w flight begun (if busy then t else record t { line = line.Register s 0 stage.Read; first = old; spent = 1 }) names contents range
      by_test true busy = h
      by_test false free =
          let z = spaces_of g w.cycle in
          let sh = shades_of g w flight t.line names in
          let other : Spot = record t { line = line.Register s 0 stage.Read; first = old; spent = 1 } in
          let o : AtFrame g sh s = at_frame g w z sh flight t names range s (work_at g w flight begun t names contents range (line.Frame s) at h) in
          let nobody : layout.frame_accessors old ≡ 0 = let few = ltb-false 0 (layout.frame_accessors old) free in omega arith in
          let behind : FrameBehind old w.frame_accessors w.frame_cycle w.frame_version s = record {
            nobody = nobody;
            behind = omega arith;
            same_accessors = λ same. omega arith;
            same_cycle = λ same. sym cycle;
          } in
          goes_on g w flight begun t names contents range (line.Frame s) at h other
          (record { from = record { marking = refl; no_hand = refl }; to = record { marking = refl; no_hand = refl }; cycle = refl; scan = refl; entries = refl })
          (register_works g w z sh flight other names range s 0 stage.Read (record {
            in_frame = record { at_frame = o; behind = behind; passed = λ r same below. absurd (omega arith) };
            register = let some = g.registers_some in omega arith;
            staged = tt;
            good = λ e. never e;
            in_work = λ e. never e;
            spent = omega arith;
          }))

  -- the exchange finds another word: the attempt is lost
  pub frame_trade_lost : (old : ℕ) → t.line ≡ line.FrameTrade s → old ≢ t.first → FactsOf g w flight begun t names contents range
      → FactsOf g w flight begun (spot_took g t old) names contents range
  unfolding took_at_line frame_trade_took l.is_marking l.hand_at_line
  frame_trade_lost old at differs h = rw (took_at g t (line.FrameTrade s) old at) (by_test (nat_eq old t.first) refl)
    where
      by_test : (found : Bool) → nat_eq old t.first ≡ found → FactsOf g w flight begun (record t { line = if found then after_frame g s else line.Frame s }) names contents range
      by_test true found = absurd (differs (eqb-true old t.first found))
      by_test false lost =
          let z = spaces_of g w.cycle in
          let sh = shades_of g w flight t.line names in
          let other : Spot = record t { line = line.Frame s } in
          let o : AtFrameTrade g w sh t s = at_frame_trade g w z sh flight t names range s (work_at g w flight begun t names contents range (line.FrameTrade s) at h) in
          goes_on g w flight begun t names contents range (line.FrameTrade s) at h other
          (record { from = record { marking = refl; no_hand = refl }; to = record { marking = refl; no_hand = refl }; cycle = refl; scan = refl; entries = refl })
          (frame_works g w z sh flight other names range s o.in_frame.at_frame)

-- THE REGISTERS

module _ (g : Geometry) (w : Words) (flight : ℕ → Flight) (begun : ℕ → ℕ) (t : Spot) (names : Names) (contents : Contents) (range : ℕ → Option ℕ)
    (s r : ℕ) (at : t.line ≡ line.Register s r stage.Read) (h : FactsOf g w flight begun t names contents range) where
  at_read : AtRegister g w (shades_of g w flight t.line names) t names s r stage.Read
  at_read = at_register g w (spaces_of g w.cycle) (shades_of g w flight t.line names) flight t names range s r stage.Read
      (work_at g w flight begun t names contents range (line.Register s r stage.Read) at h)

  -- a register that is null is past
  null_past : (other : Spot) (gone : ℕ) → other.first ≡ t.first → w.register s r ≡ 0 → gone ≤ r + 1 → InFrame g w (shades_of g w flight t.line names) other s gone
  null_past other gone same null next =
      let o = at_read in
      same_frame g w (shades_of g w flight t.line names) t other s gone same (record {
        at_frame = o.in_frame.at_frame;
        behind = o.in_frame.behind;
        passed = λ k loaded below. elim (cases_eq k r) [
          | inl here ↦ inl (ap (w.register s) here ∙ null)
          | inr before ↦ o.in_frame.passed k loaded (omega arith)
        ];
      })

  -- the next register, or the exchange
  null_goes_on : w.register s r ≡ 0 → (more : Bool) → nat_lt (r + 1) g.registers ≡ more
      → FactsOf g w flight begun (record t { line = if more then line.Register s (r + 1) stage.Read else line.FrameTrade s; cell = w.register s r; spent = t.spent + 1 }) names contents range
  unfolding l.is_marking l.hand_at_line l.hand_at l.is_in_work l.stage_rank
  null_goes_on null true more =
      let z = spaces_of g w.cycle in
      let sh = shades_of g w flight t.line names in
      let o : AtRegister g w sh t names s r stage.Read = at_read in
      let other : Spot = record t { line = line.Register s (r + 1) stage.Read; cell = w.register s r; spent = t.spent + 1 } in
      let spent : t.spent ≤ 1 + 4 * r + 0 = o.spent in
      goes_on g w flight begun t names contents range (line.Register s r stage.Read) at h other
      (record { from = record { marking = refl; no_hand = refl }; to = record { marking = refl; no_hand = refl }; cycle = refl; scan = refl; entries = refl })
      (register_works g w z sh flight other names range s (r + 1) stage.Read (record {
        in_frame = null_past other (r + 1) refl null (omega arith);
        register = ltb-true (r + 1) g.registers more;
        staged = tt;
        good = λ e. never e;
        in_work = λ e. never e;
        spent = omega arith;
      }))
  null_goes_on null false last =
      let z = spaces_of g w.cycle in
      let sh = shades_of g w flight t.line names in
      let o : AtRegister g w sh t names s r stage.Read = at_read in
      let other : Spot = record t { line = line.FrameTrade s; cell = w.register s r; spent = t.spent + 1 } in
      let within : r < g.registers = o.register in
      let most : g.registers ≤ r + 1 = ltb-false (r + 1) g.registers last in
      let spent : t.spent ≤ 1 + 4 * r + 0 = o.spent in
      goes_on g w flight begun t names contents range (line.Register s r stage.Read) at h other
      (record { from = record { marking = refl; no_hand = refl }; to = record { marking = refl; no_hand = refl }; cycle = refl; scan = refl; entries = refl })
      (frame_trade_works g w z sh flight other names range s (record { in_frame = null_past other g.registers refl null most; spent = omega arith }))

  -- a register is loaded: null is past, and a reference is dealt with
  pub register_loads : FactsOf g w flight begun (spot_took g t (w.register s r)) names contents range
  unfolding took_at_line register_took l.is_marking l.hand_at_line l.hand_at l.is_in_work l.stage_rank
  register_loads = rw (took_at g t (line.Register s r stage.Read) (w.register s r) at) (by_test (nat_eq (w.register s r) 0) refl)
    where
      by_test : (null : Bool) → nat_eq (w.register s r) 0 ≡ null
          → FactsOf g w flight begun (record t { line = if null then after_register g s r else line.Register s r stage.Claim; cell = w.register s r; spent = t.spent + 1 }) names contents range
      by_test true null = null_goes_on (eqb-true (w.register s r) 0 null) (nat_lt (r + 1) g.registers) refl
      by_test false some =
          let z = spaces_of g w.cycle in
          let sh = shades_of g w flight t.line names in
          let o : AtRegister g w sh t names s r stage.Read = at_read in
          let other : Spot = record t { line = line.Register s r stage.Claim; cell = w.register s r; spent = t.spent + 1 } in
          let spent : t.spent ≤ 1 + 4 * r + 0 = o.spent in
          let good : IsGood sh.kept names (w.register s r) = elim (h.registers_good s r o.in_frame.at_frame.seat o.register) [
            | inl null ↦ absurd (eqb-false (w.register s r) 0 some null)
            | inr good ↦ good
          ] in
          goes_on g w flight begun t names contents range (line.Register s r stage.Read) at h other
          (record { from = record { marking = refl; no_hand = refl }; to = record { marking = refl; no_hand = refl }; cycle = refl; scan = refl; entries = refl })
          (register_works g w z sh flight other names range s r stage.Claim (record {
            in_frame = same_frame g w sh t other s r refl o.in_frame;
            register = o.register;
            staged = tt;
            good = λ e. good;
            in_work = λ e same. inr refl;
            spent = omega arith;
          }))
