-- The slack by what is kept in each of the two positions.
-- Assumes nothing.
use Rattle.laws.proofs.Prelude.{ℕ, ◌≤◌, ◌<◌, ◌≡◌, refl, sym, ◌∙◌, Bool, true, ◌||◌, ◌⊎◌, inl, inr, List, eqb, ltb, eqb-true, eqb-false, ltb-true, ltb-false, arith, le_antisymm, split, either, or_parts, or_right}
use Rattle.laws.specs.Greatest.{greatest_to}
use Rattle.sheet.specs.LockHeight.{never}
use Rattle.position.specs.declared.Position.{Position}
use Rattle.position.specs.Effect.{with_slots, change_slots}
use Rattle.soonest.specs.Soonest.{greater}
use Rattle.soonest.proofs.Bounds.{greater_left, greater_right, greater_le}
use Rattle.slack.specs.Kept.{kept, longest, kept_for}
use Rattle.slack.specs.Settled.{settled}
use Rattle.slack.specs.Slack.{kept_settled, lasts, slack}
use Rattle.slack.proofs.Greatest.{greatest_passes, greatest_most}
use Rattle.call_slack.specs.Forms.Counted.{longer}

-- the greatest is the one that passes and that no other which passes exceeds
greatest_is : (n d : ℕ) → n < d → (h : ℕ → Bool) (r : ℕ) → ((r ≡ d → ⊥) → (r ≤ n) × (h r ≡ true))
    → ((k : ℕ) → k ≤ n → h k ≡ true → (r ≡ d → ⊥) × (k ≤ r)) → greatest_to n h d ≡ r
greatest_is n d few h r passes most =
    let m = greatest_to n h d in
    split (eqb m d)
    (λ y.
    let e = eqb-true m d y in
    split (eqb r d)
    (λ z. e ∙ sym (eqb-true r d z))
    (λ z. let w = passes (eqb-false r d z) in absurd ((greatest_most h d n few r w.0 w.1).0 e)))
    (λ y.
    let w = greatest_passes h d n (eqb-false m d y) in
    let v = most m w.0 w.1 in
    let z = passes v.0 in
    le_antisymm v.1 (greatest_most h d n few r z.0 z.1).1)

-- it is a, which each number from 1 up to b, if that is one, does not exceed; or it is b, from 1 on, which exceeds a, if that is a number
abbrev Longer : ℕ → ℕ → Type 0
Longer a b =
    ((longer a b ≡ a) × ((k : ℕ) → 1 ≤ k → (b ≡ never → ⊥) → k ≤ b → (a ≡ never → ⊥) × (k ≤ a)))
    ⊎ ((longer a b ≡ b) × (1 ≤ b) × (b ≡ never → ⊥) × ((a ≡ never → ⊥) → a < b))

pub longer_is : (a b : ℕ) → Longer a b
unfolding longer greater
longer_is a b =
    split (eqb b 0)
    (λ y. let z = eqb-true b 0 y in inl (rw y, λ k one some l. absurd (omega (arith, one, l, z))))
    (λ y.
    let one = eqb-false b 0 y in
    split (eqb b never)
    (λ z. inl (rw (y, z), λ k l some m. absurd (some (eqb-true b never z))))
    (λ z.
    split (eqb a never)
    (λ v. inr (rw (y, z, v), omega (arith, one), eqb-false b never z, λ some. absurd (some (eqb-true a never v))))
    (λ v.
    split (ltb a b)
    (λ w. inr (rw (y, z, v, w), omega (arith, one), eqb-false b never z, λ some. ltb-true a b w))
    (λ w. inl (rw (y, z, v, w), λ k l some m. (eqb-false a never v, omega (arith, m, ltb-false a b w)))))))

-- it is one of the two
pub longer_few : (a b n : ℕ) → ((a ≡ never → ⊥) → a ≤ n) → ((b ≡ never → ⊥) → b ≤ n) → (longer a b ≡ never → ⊥) → longer a b ≤ n
longer_few a b n k l some =
    either (longer_is a b)
    (λ w. rw w.0 (k (rw w.0 at some)))
    (λ w. rw w.0 (l (rw w.0 at some)))

pub longer_same : (a : ℕ) → longer a a ≡ a
longer_same a = either (longer_is a a) (λ w. w.0) (λ w. w.0)

-- a number from 1 on
pub greater_one : (k : ℕ) → 1 ≤ k → greater k 1 ≡ k
greater_one k l = le_antisymm (greater_le k 1 k (omega arith) l) (greater_left k 1)

module _ (f g : ℕ → Bool) where
  abbrev a : ℕ
  a = greatest_to longest f never

  abbrev b : ℕ
  b = greatest_to longest g never

  abbrev passes : ℕ → Bool
  passes k = f k || g (greater k 1)

  longer_passes : (longer a b ≡ never → ⊥) → (longer a b ≤ longest) × (passes (longer a b) ≡ true)
  longer_passes some =
      either (longer_is a b)
      (λ w. rw w.0 (let y = greatest_passes f never longest (rw w.0 at some) in (y.0, rw y.1 refl)))
      (λ w.
      rw w.0
      (let y = greatest_passes g never longest w.2 in
      (y.0, or_right (f b) (g (greater b 1)) (rw (greater_one b w.1) y.1))))

  longer_most : (k : ℕ) → k ≤ longest → passes k ≡ true → (longer a b ≡ never → ⊥) × (k ≤ longer a b)
  longer_most k l h =
      let low = greater_left k 1 in
      either (or_parts (f k) (g (greater k 1)) h)
      (λ y.
      let m = greatest_most f never longest (omega arith) k l y in
      either (longer_is a b)
      (λ w. rw w.0 m)
      (λ w. let more = w.3 m.0 in rw w.0 (w.2, omega (arith, m.1, more))))
      (λ y.
      let m = greatest_most g never longest (omega arith) (greater k 1) (greater_le k 1 longest l (omega arith)) y in
      either (longer_is a b)
      (λ w. let v = w.1 (greater k 1) (greater_right k 1) m.0 m.1 in rw w.0 (v.0, omega (arith, v.1, low)))
      (λ w. rw w.0 (w.2, omega (arith, m.1, low))))

  greatest_longer : greatest_to longest passes never ≡ longer a b
  greatest_longer = greatest_is longest never (omega arith) passes (longer a b) longer_passes longer_most

pub slack_longer : (s u : List ℕ) (p : Position) (x : ℕ) → slack s u p x ≡ longer (kept_for s u p x) (kept_for s u (settled s u p x) x)
unfolding slack lasts kept_settled kept_for kept settled change_slots with_slots
slack_longer s u p x = greatest_longer (kept s u p x) (kept s u (settled s u p x) x)

-- where the position as it stands keeps for the longest, that is the slack
pub slack_longest : (s u : List ℕ) (p : Position) (x : ℕ) → kept_for s u p x ≡ longest → slack s u p x ≡ longest
unfolding kept_for
slack_longest s u p x e =
    let a = kept_for s u p x in
    let b = kept_for s u (settled s u p x) x in
    either (longer_is a b)
    (λ w. slack_longer s u p x ∙ (w.0 ∙ e))
    (λ w.
    let more = w.3 (λ y. absurd (omega (arith, y, e))) in
    let most = (greatest_passes (kept s u (settled s u p x) x) never longest w.2).0 in
    absurd (omega (arith, more, most, e)))
