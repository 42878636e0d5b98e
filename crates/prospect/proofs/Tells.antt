-- Each height over the marks tells what slack's definitions say at a height that an outage ends at.
-- Assumes nothing.
use Rattle.laws.proofs.Prelude.{ℕ, ◌+◌, ◌-◌, ◌≤◌, ◌<◌, ◌≡◌, refl, sym, ◌∙◌, List, Bool, true, false, not, ◌&&◌, ◌||◌, eqb, ltb, leb, get_or}
use Rattle.laws.proofs.Prelude.{ap, lt-ltb, le-ltb, arith}
use Prim.Native.Nat.{min}
use Rattle.laws.specs.Booleans.{pick, split, and_parts}
use Rattle.laws.specs.Below.{any_below, any_same}
use Rattle.laws.specs.Mask.{bit}
use Rattle.sheet.specs.Field.{count}
use Rattle.sheet.specs.Setup.{stealth}
use Rattle.sheet.specs.LockHeight.{never}
use Rattle.sheet.specs.Checked.{Checked}
use Rattle.slots.specs.Destination.{is_payee, is_contract}
use Rattle.slots.specs.Conflict.{conflict}
use Rattle.position.specs.declared.Position.{Position}
use Rattle.soonest.specs.Soonest.{greater, since_locked}
use Rattle.attainable.specs.Attainable.{gone}
use Rattle.slack.specs.Beaten.{fixed, runs, pooled, signs, lock_beside, late, any_late, stands, waits_before, sooner, comes_beside, beats, last}
use Rattle.slack.specs.Kept.{known_at}
use Rattle.kept.specs.Forms.Prospect.{none, outlasts}
use Rattle.prospect.specs.declared.Marks.{Marks}
use Rattle.prospect.specs.Forms.Thresholds.{late_in, sooner_in}
use Rattle.prospect.specs.Forms.Marks.{Marked, Comers}
use Rattle.prospect.specs.Forms.Tables.{late_at, least_late, held, waits_in, sooner_at, beat_at, least_beat, open_until, fails_at, until_at, ends_at}
use Rattle.prospect.proofs.Thresholds.{late_tells, sooner_tells, beat_from_tells}
use Rattle.prospect.proofs.Least.{before_is, lower_reached, least_tells}
use Rattle.prospect.proofs.Marked.{mark, rival_lock, waits_in_lem}

-- tests in another order
neither : (a b : Bool) → ((a && false) && b) ≡ (a && false)
neither true b = refl
neither false b = refl

both : (a b c : Bool) → ((a && b) && c) ≡ (a && (b && c))
both true b c = refl
both false b c = refl

third : (a b c d : Bool) → (a && (b && (c && d))) ≡ (b && (c && (a && d)))
third true b c d = refl
third false true true d = refl
third false true false d = refl
third false false c d = refl

last_in_lem : (a b c d : Bool) → ((a && (b && c)) && d) ≡ (a && (b && (c && d)))
last_in_lem true true c d = refl
last_in_lem true false c d = refl
last_in_lem false b c d = refl

not_either : (a b : Bool) → not (a || b) ≡ (not a && not b)
not_either true b = refl
not_either false b = refl

module _ (s u : List ℕ) (p : Position) (x : ℕ) (m : Marks) (ok : Checked s) (is : Marked s u p x m) (t : ℕ) (l : t < count s) where
  own_lock : get_or m.lock t 0 ≡ lock_beside s u p t t
  own_lock = (is.locks.each t l).is

  is_fixed : bit m.fixed t ≡ fixed s p t
  is_fixed = mark s ok m.fixed (fixed s p) is.fixed_is t l

  is_running : bit m.runs t ≡ runs s u p x t
  is_running = mark s ok m.runs (runs s u p x) is.runs_is t l

  is_pooled : bit m.pooled t ≡ pooled s p x t
  is_pooled = mark s ok m.pooled (pooled s p x) is.pooled_is t l

  is_signed : bit m.signs t ≡ signs s p x (known_at s p x t) t
  is_signed = mark s ok m.signs (λ k. signs s p x (known_at s p x k) k) is.signs_is t l

  since : (r : ℕ) → r < count s → bit m.since r ≡ since_locked s r
  since = mark s ok m.since (since_locked s) is.since_is

  rival : (r : ℕ) → r < count s → bit (get_or m.rivals t 0) r ≡ conflict s r t
  rival r h = mark s ok (get_or m.rivals t 0) (λ k. conflict s k t) (is.rivals_are.each t l) r h

  is_gone : bit m.gone t ≡ gone s p t
  is_gone = mark s ok m.gone (gone s p) is.gone_is t l

  is_payable : bit m.payable t ≡ (is_contract s t || is_payee s t x)
  is_payable = mark s ok m.payable (λ k. is_contract s k || is_payee s k x) is.payable_is t l

  is_held : held m t ≡ (eqb (stealth u) 0 && pooled s p x t)
  unfolding held
  is_held = rw (is_pooled, is.stealth_is)

  module _ (off : ℕ) (small : off < none) where
    late_at_lem : (r : ℕ) → r < count s → conflict s r t ≡ true → leb (late_at m t r) off ≡ late s u p x off t r
    unfolding late_at late_in late
    late_at_lem r h e =
        late_tells off small (bit m.fixed t) (bit m.runs t) (bit m.since t) (bit m.since r) (get_or m.lock t 0) (get_or m.lock r 0)
        ∙ rw (is_fixed, is_running, since t l, since r h, own_lock, rival_lock s u p x m ok is t r l h e)

    sooner_at_lem : (r : ℕ) → r < count s → conflict s r t ≡ true → leb (sooner_at m t r) off ≡ sooner s u p x off t r
    unfolding sooner_at sooner_in sooner
    sooner_at_lem r h e =
        sooner_tells off small (bit m.pooled t) (bit m.fixed t) (bit m.runs t) (bit m.since r) (get_or m.lock t 0) (get_or m.lock r 0)
        ∙ rw (is_pooled, is_fixed, is_running, since r h, own_lock, rival_lock s u p x m ok is t r l h e)

    -- some rival is late
    late_reached : leb (least_late m t) off ≡ any_late s u p x off t
    unfolding least_late any_late
    late_reached =
        least_tells (bit (get_or m.rivals t 0)) (late_at m t) none off small m.count
        ∙ ap (λ (n : ℕ). any_below n (λ r. bit (get_or m.rivals t 0) r && leb (late_at m t r) off)) is.count_is
        ∙ any_same (count s) (λ r. bit (get_or m.rivals t 0) r && leb (late_at m t r) off) (λ r. conflict s r t && late s u p x off t r)
        (λ r h. rw (rival r h) (split (conflict s r t) (λ y. rw (y, late_at_lem r h y)) (λ y. rw y)))

    -- r beats t
    pub beat_tells : (also come : ℕ) → Comers s u p x also t come → (r : ℕ) → r < count s → leb (beat_at m come t r) off ≡ beats s u p x also off t r
    unfolding beat_at beats
    beat_tells also come comers r h =
        beat_from_tells off small (not (held m t) && bit come r) (waits_in m t r) (sooner_at m t r)
        ∙ rw (is_held, comers.tells r h, waits_in_lem s u p x m ok is t r l h)
        (split (conflict s r t)
        (λ y.
        rw (y, sooner_at_lem r h y)
        (both (not (eqb (stealth u) 0 && pooled s p x t)) (comes_beside s u p x also t r) (waits_before p x t r || sooner s u p x off t r)))
        (λ y. rw y (neither (not (eqb (stealth u) 0 && pooled s p x t)) (waits_before p x t r || leb (sooner_at m t r) off))))

    -- some rival beats t
    beaten : (also come : ℕ) → Comers s u p x also t come → leb (least_beat m come t) off ≡ any_below (count s) (beats s u p x also off t)
    unfolding least_beat
    beaten also come comers =
        least_tells (λ r. true) (beat_at m come t) none off small m.count
        ∙ ap (λ (n : ℕ). any_below n (λ r. leb (beat_at m come t r) off)) is.count_is
        ∙ any_same (count s) (λ r. leb (beat_at m come t r) off) (beats s u p x also off t) (beat_tells also come comers)

    -- t stands, whatever X knows
    stands_on : Bool
    stands_on = not (eqb (stealth u) 0) || (pooled s p x t || not (any_late s u p x off t))

    open_from : (g y a b : Bool) (h : ℕ) → ltb off (pick g 0 (pick y (pick (a || b) none h) 0)) ≡ (not g && (y && (a || (b || not (leb h off)))))
    open_from true y a b h = le-ltb off 0 (omega arith)
    open_from false false a b h = le-ltb off 0 (omega arith)
    open_from false true true b h = lt-ltb off none small
    open_from false true false true h = lt-ltb off none small
    open_from false true false false h = before_is off h

    open_tells : ltb off (open_until m t) ≡ (not (gone s p t) && ((is_contract s t || is_payee s t x) && stands_on))
    unfolding open_until stands_on
    open_tells =
        open_from (bit m.gone t) (bit m.payable t) (not (eqb m.stealth 0)) (bit m.pooled t) (least_late m t)
        ∙ rw (late_reached, is_pooled, is_gone, is_payable, is.stealth_is)

    sure_first : (z : Bool) (h : ℕ) → ltb off (pick z h 0) ≡ (z && ltb off h)
    sure_first true h = refl
    sure_first false h = le-ltb off 0 (omega arith)

    pub fails_tells : ltb off (fails_at m t) ≡ stands s u p x (known_at s p x t) off t
    unfolding fails_at stands stands_on
    fails_tells =
        sure_first (bit m.signs t || bit m.pooled t) (open_until m t)
        ∙ rw (open_tells, is_signed, is_pooled)
        (third (signs s p x (known_at s p x t) t || pooled s p x t) (not (gone s p t)) (is_contract s t || is_payee s t x) stands_on)

    pub until_tells : (also come : ℕ) → Comers s u p x also t come → ltb off (until_at m come t) ≡ outlasts s u p x also off t
    unfolding until_at outlasts stands_on
    until_tells also come comers =
        before_is off (min (open_until m t) (least_beat m come t))
        ∙ rw (lower_reached (open_until m t) (least_beat m come t) off)
        (not_either (leb (open_until m t) off) (leb (least_beat m come t) off)
        ∙ rw (← (before_is off (open_until m t)), open_tells, beaten also come comers)
        (last_in_lem (not (gone s p t)) (is_contract s t || is_payee s t x) stands_on (not (any_below (count s) (beats s u p x also off t)))))

  pub ends_small : ends_at m t ≤ never
  unfolding ends_at
  ends_small =
      split (bit m.fixed t && bit m.signs t)
      (λ y. rw y ((is.locks.each t l).low (sym is_fixed ∙ (and_parts (bit m.fixed t) (bit m.signs t) y).0)))
      (λ y. rw y (omega arith))

  pub ends_tells : stealth u ≤ 1 → (off : ℕ) → off + 1 < never → greater off (ends_at m t) + stealth u ≡ last s u p x (known_at s p x t) off t
  unfolding ends_at last greater
  ends_tells flag off low =
      rw (is_fixed, is_signed, own_lock, is.stealth_is)
      (split (fixed s p t && signs s p x (known_at s p x t) t)
      (λ y. rw y)
      (λ y. let h : ltb off (never - stealth u) ≡ true = lt-ltb off (never - stealth u) (omega (arith, flag, low)) in rw (y, h) (omega (arith, flag))))
