-- What is found for a party, by what is read of the position as it stands and of the settled one.
-- Assumes nothing.
use Rattle.laws.proofs.Prelude.{ℕ, ◌+◌, ◌≤◌, ◌<◌, ◌≡◌, refl, ap, sym, ◌∙◌, Bool, true, false, List, eqb, ltb, eqb-true, eqb-false, ltb-true, ltb-false, arith, split, either, fails_by}
use Rattle.laws.specs.Greatest.{greatest_to}
use Rattle.laws.specs.Least.{least_below, least_reached, least_top}
use Rattle.sheet.specs.Field.{count}
use Rattle.sheet.specs.LockHeight.{never}
use Rattle.sheet.specs.Checked.{Checked}
use Rattle.position.specs.declared.Position.{Position}
use Rattle.position.specs.Effect.{with_slots, change_slots}
use Rattle.slack.specs.Kept.{kept, longest, kept_for, paid, reached}
use Rattle.slack.specs.Counted.{none, lowest, sure, counted_on}
use Rattle.slack.specs.Settled.{settled}
use Rattle.slack.specs.Slack.{slack}
use Rattle.slack.proofs.Greatest.{greatest_passes, greatest_most}
use Rattle.kept.specs.declared.Prospect.{Prospect}
use Rattle.kept.specs.Forms.Prospect.{Seen}
use Rattle.kept.specs.Forms.Evaluation.{kept_over}
use Rattle.kept.proofs.Answers.{kept_for_is, counted_is}
use Rattle.call_slack.specs.Row.{counted_at}
use Rattle.call_slack.specs.Forms.Counted.{longer, counted_at_in, counted_both}
use Rattle.call_slack.proofs.Longer.{longer_is, longer_few, longer_same, greater_one, slack_longer, slack_longest}

-- the lowest is a transaction, or none
lowest_low : (s : List ℕ) (f : ℕ → Bool) → (lowest s f ≡ none → ⊥) → lowest s f < count s
unfolding lowest
lowest_low s f some =
    let top = least_top f (λ t. t) none (count s) in
    let below : least_below (count s) f (λ t. t) none < none =
    split (ltb (least_below (count s) f (λ t. t) none) none)
    (λ y. ltb-true (least_below (count s) f (λ t. t) none) none y)
    (λ y. absurd (some (omega (arith, top, ltb-false (least_below (count s) f (λ t. t) none) none y)))) in
    let w = least_reached f (λ t. t) none (count s) below in
    omega (arith, w.1, w.3)

-- what is counted on up to a height is a transaction, or none
on_low : (s u : List ℕ) (p : Position) (x off : ℕ) → (counted_on s u p x off ≡ none → ⊥) → counted_on s u p x off < count s
unfolding counted_on
on_low s u p x off some =
    let safe = lowest s (sure s u p x off) in
    split (paid s p x)
    (λ z. absurd (some (rw z)))
    (λ z.
    split (eqb safe none)
    (λ w. rw (z, w) (lowest_low s (reached s u p x off) (λ v. some (rw (z, w) v))))
    (λ w. rw (z, w) (lowest_low s (sure s u p x off) (eqb-false safe none w))))

pub counted_low : (s u : List ℕ) (p : Position) (x blocks : ℕ) → (counted_at s u p x blocks ≡ none → ⊥) → counted_at s u p x blocks < count s
unfolding counted_at
counted_low s u p x blocks some =
    split (eqb blocks never)
    (λ y. absurd (some (rw y)))
    (λ y.
    split (kept s u p x blocks)
    (λ z. rw (y, z) (on_low s u p x _ (λ v. some (rw (y, z) v))))
    (λ z. rw (y, z) (on_low s u (settled s u p x) x _ (λ v. some (rw (y, z) v)))))

module _ (s u : List ℕ) (ok : Checked s) (p : Position) (x : ℕ) (q : Prospect) (see : Seen s u p x q) where
  -- what is kept for a number of blocks is one up to the longest
  pub found_few : (a : ℕ) → a ≡ greatest_to longest (kept_over q) never → (a ≡ never → ⊥) → a ≤ longest
  found_few a e some = rw e (greatest_passes (kept_over q) never longest (λ y. some (e ∙ y))).0

  -- what is counted on over so many blocks
  counted_over : (blocks : ℕ) → eqb blocks never ≡ false → blocks ≤ longest → counted_at_in q blocks ≡ counted_on s u p x (p.mined + blocks)
  unfolding counted_at_in
  counted_over blocks y l =
      rw y
      (counted_is s u ok p x q see (q.mined + blocks) (omega (arith, l, see.bounded.early))
      ∙ ap (λ m. counted_on s u p x (m + blocks)) see.mined_is)

  counted_never : (blocks : ℕ) → eqb blocks never ≡ true → counted_at_in q blocks ≡ none
  unfolding counted_at_in
  counted_never blocks y = rw y

-- where the position as it stands keeps for the longest
module _
    (s u : List ℕ) (ok : Checked s) (p : Position) (x : ℕ) (q : Prospect) (see : Seen s u p x q)
    (a : ℕ) (e : a ≡ greatest_to longest (kept_over q) never) (top : a ≡ longest) where
  is_longest : kept_for s u p x ≡ longest
  is_longest = sym (kept_for_is s u ok p x q see) ∙ (sym e ∙ top)

  pub longest_slack : longer a a ≡ slack s u p x
  longest_slack = longer_same a ∙ (top ∙ sym (slack_longest s u p x is_longest))

  stands_longest : kept s u p x longest ≡ true
  unfolding kept_for
  stands_longest =
      let i : greatest_to longest (kept s u p x) never ≡ longest = is_longest in
      rw i at (greatest_passes (kept s u p x) never longest (λ y. omega (arith, i, y))).1

  pub longest_counted : counted_both q q a (longer a a) ≡ counted_at s u p x (slack s u p x)
  unfolding counted_both counted_at
  longest_counted =
      rw (longer_same a, top, slack_longest s u p x is_longest, stands_longest)
      (counted_over s u ok p x q see longest refl (omega arith))

module _
    (s u : List ℕ) (ok : Checked s) (p : Position) (x : ℕ) (q r : Prospect) (see : Seen s u p x q) (then : Seen s u (settled s u p x) x r)
    (a b : ℕ) (e : a ≡ greatest_to longest (kept_over q) never) (f : b ≡ greatest_to longest (kept_over r) never) where
  abbrev blocks : ℕ
  blocks = longer a b

  a_is : a ≡ kept_for s u p x
  a_is = e ∙ kept_for_is s u ok p x q see

  b_is : b ≡ kept_for s u (settled s u p x) x
  b_is = f ∙ kept_for_is s u ok (settled s u p x) x r then

  pub found_slack : blocks ≡ slack s u p x
  found_slack = rw (a_is, b_is) (sym (slack_longer s u p x))

  few : eqb blocks never ≡ false → blocks ≤ longest
  few y =
      longer_few a b longest (found_few s u ok p x q see a e) (found_few s u ok (settled s u p x) x r then b f)
      (eqb-false blocks never y)

  -- it is kept as it stands where this is the number
  stands : eqb blocks never ≡ false → eqb blocks a ≡ true → kept s u p x blocks ≡ true
  unfolding kept_for
  stands y z =
      let i : blocks ≡ kept_for s u p x = eqb-true blocks a z ∙ a_is in
      rw i (greatest_passes (kept s u p x) never longest (λ v. eqb-false blocks never y (i ∙ v))).1

  -- else it is the other number, and it is not
  settles : eqb blocks a ≡ false → (blocks ≡ b) × (1 ≤ b) × ((a ≡ never → ⊥) → a < b)
  settles z =
      either (longer_is a b)
      (λ w. absurd (eqb-false blocks a z w.0))
      (λ w. (w.0, w.1, w.3))

  falls_short : eqb blocks never ≡ false → eqb blocks a ≡ false → kept s u p x blocks ≡ false
  unfolding kept_for
  falls_short y z =
      let w = settles z in
      fails_by (kept s u p x blocks) (λ h.
      let m = greatest_most (kept s u p x) never longest (omega arith) blocks (few y) h in
      let more = w.2 (λ v. m.0 (sym a_is ∙ v)) in
      let i : a ≡ greatest_to longest (kept s u p x) never = a_is in
      omega (arith, more, m.1, i, w.0))

  counted_found : counted_both q r a blocks ≡ counted_at s u p x blocks
  unfolding counted_both counted_at settled change_slots with_slots
  counted_found =
      split (eqb blocks never)
      (λ y.
      rw (y, counted_never s u ok p x q see blocks y, counted_never s u ok (settled s u p x) x r then blocks y)
      (split (eqb blocks a) (λ z. rw z) (λ z. rw z)))
      (λ y.
      split (eqb blocks a)
      (λ z. rw (y, z, stands y z) (counted_over s u ok p x q see blocks y (few y)))
      (λ z.
      let w = settles z in
      rw (y, z, falls_short y z, greater_one blocks (rw w.0 w.1))
      (counted_over s u ok (settled s u p x) x r then blocks y (few y))))

  pub found_counted : counted_both q r a blocks ≡ counted_at s u p x (slack s u p x)
  found_counted = counted_found ∙ ap (counted_at s u p x) found_slack
