-- Each threshold tells its test.
-- Assumes nothing.
use Rattle.laws.proofs.Prelude.{ℕ, ◌+◌, ◌≤◌, ◌<◌, ◌≡◌, refl, sym, ◌∙◌, Bool, true, false, ◌&&◌, ◌||◌, ltb, leb, ltb-true, ltb-false, leb-true, leb-false}
use Rattle.laws.proofs.Prelude.{le-leb, lt-leb, arith}
use Rattle.laws.specs.Booleans.{pick, split}
use Rattle.soonest.specs.Soonest.{greater}
use Rattle.slack.specs.Beaten.{locked_later}
use Rattle.kept.specs.Forms.Prospect.{none}
use Rattle.prospect.specs.Forms.Thresholds.{late_in, sooner_in, height_if, late_from, sooner_above, sooner_from, beat_from}

-- no later than the greater of two
not_after : (his own off : ℕ) → own < his → leb his off ≡ leb his (greater off own)
unfolding greater
not_after his own off h =
    split (ltb off own)
    (λ y.
    let a : leb his off ≡ false = lt-leb his off (omega (arith, ltb-true off own y, h)) in
    rw (y, a, lt-leb his own h))
    (λ y. rw y)

before_greater : (his own off : ℕ) → his ≤ own → leb his (greater off own) ≡ true
unfolding greater
before_greater his own off h =
    split (ltb off own)
    (λ y. rw y (le-leb his own h))
    (λ y. rw y (le-leb his off (omega (arith, ltb-false off own y, h))))

module _ (off : ℕ) (small : off < none) where
  -- no height is reached, and 0 at once
  no_height : leb none off ≡ false
  no_height = lt-leb none off small

  at_once : leb 0 off ≡ true
  at_once = le-leb 0 off (omega arith)

  height_if_lem : (on : Bool) (h : ℕ) → leb (height_if on h) off ≡ (on && leb h off)
  unfolding height_if
  height_if_lem true h = refl
  height_if_lem false h = no_height

  late_by : (runs sinceOwn sinceHis : Bool) (own his : ℕ) → leb (late_from false runs sinceOwn sinceHis own his) off ≡ late_in false runs sinceOwn sinceHis own his off
  unfolding late_from late_in locked_later
  late_by r true true own his = height_if_lem r (height_if (ltb own his) his) ∙ rw (height_if_lem (ltb own his) his)
  late_by r false true own his = height_if_lem r (greater his (own + 1))
  late_by r true false own his = height_if_lem (ltb own his) (height_if r his) ∙ rw (height_if_lem r his)
  late_by r false false own his = height_if_lem (ltb own his) 0 ∙ rw at_once

  pub late_tells : (fixed runs sinceOwn sinceHis : Bool) (own his : ℕ)
      → leb (late_from fixed runs sinceOwn sinceHis own his) off ≡ late_in fixed runs sinceOwn sinceHis own his off
  unfolding late_from late_in locked_later
  late_tells true r o w own his = height_if_lem (ltb own his) his
  late_tells false r o w own his = late_by r o w own his

  -- a rival locked no later is sooner at once
  sooner_now : (pooled fixed runs sinceHis : Bool) (own his : ℕ) → leb his own ≡ true → sooner_in pooled fixed runs sinceHis own his off ≡ true
  unfolding sooner_in
  sooner_now true f r w own his y = y
  sooner_now false true r w own his y = before_greater his own off (leb-true his own y)
  sooner_now false false r true own his y = rw y
  sooner_now false false r false own his y = refl

  sooner_later : (pooled fixed runs sinceHis : Bool) (own his : ℕ) → leb his own ≡ false
      → leb (pick pooled none (sooner_above fixed runs sinceHis his)) off ≡ sooner_in pooled fixed runs sinceHis own his off
  unfolding sooner_in sooner_above
  sooner_later true f r w own his y = no_height ∙ sym y
  sooner_later false true r w own his y = not_after his own off (leb-false his own y)
  sooner_later false false r true own his y = rw y (height_if_lem r his)
  sooner_later false false r false own his y = at_once

  pub sooner_tells : (pooled fixed runs sinceHis : Bool) (own his : ℕ)
      → leb (sooner_from pooled fixed runs sinceHis own his) off ≡ sooner_in pooled fixed runs sinceHis own his off
  unfolding sooner_from
  sooner_tells q f r w own his =
      split (leb his own)
      (λ y. rw (y, at_once) (sym (sooner_now q f r w own his y)))
      (λ y. rw y (sooner_later q f r w own his y))

  pub beat_from_tells : (comes waits : Bool) (h : ℕ) → leb (beat_from comes waits h) off ≡ (comes && (waits || leb h off))
  unfolding beat_from
  beat_from_tells c true h = height_if_lem c 0 ∙ rw at_once
  beat_from_tells c false h = height_if_lem c h
