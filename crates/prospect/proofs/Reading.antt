-- What is read of the others tells, over the definitions of slack.
-- Assumes nothing.
use Rattle.laws.proofs.Prelude.{ℕ, ◌<◌, ◌≡◌, ◌∙◌, List, Bool, false, not, ◌&&◌, eqb, ne_eqb, get_or, arith}
use lib.Bits.{bit_or}
use Rattle.laws.specs.Booleans.{split, or_neither}
use Rattle.laws.specs.Below.{any_below, any_same}
use Rattle.laws.specs.Mask.{bit, union_below}
use Rattle.laws.specs.Unions.{or_assoc, union_same}
use Rattle.laws.specs.Sets.{set_below, set_bit, set_same}
use Rattle.sheet.specs.Field.{count, parent, opening}
use Rattle.sheet.specs.Checked.{Checked}
use Rattle.slots.specs.Destination.{destinations}
use Rattle.slots.specs.Ancestry.{has_parent}
use Rattle.slots.specs.Slot.{shared_any}
use Rattle.slots.specs.Signatures.{shared_secrets}
use Rattle.position.specs.declared.Position.{Position}
use Rattle.position.specs.Position.{slot, keys, is_confirmed}
use Rattle.soonest.specs.Forms.Table.{Filled}
use Rattle.attainable.specs.Attainable.{secrets_of, shown_by, known_from, waits_for, attainable}
use Rattle.attainable.specs.Forms.Others.{nowhere, waits_apart}
use Rattle.attainable.specs.Forms.Round.{shown_at, shown_in}
use Rattle.slack.specs.Beaten.{above, fixed, runs, signs}
use Rattle.slack.specs.Kept.{known_at}

module _ (s u : List ℕ) (p : Position) (x : ℕ) (ok : Checked s) where
  spend : (t : ℕ) (member : ℕ → Bool) → fixed s p t ≡ false → has_parent s member t ≡ member (parent s t)
  unfolding fixed has_parent
  spend t member y = rw (or_neither (opening s t) (is_confirmed p (parent s t)) y).0

  moves : (t : ℕ) (member : ℕ → Bool) → (not (fixed s p t) && has_parent s member t) ≡ (not (fixed s p t) && member (parent s t))
  moves t member = split (fixed s p t) (λ y. rw y) (λ y. rw (y, spend t member y))

  -- the parent is neither confirmed nor none, and can come
  pub runs_is : (set fix can : ℕ) → set ≡ set_below (count s) (λ t. not (bit fix t) && has_parent s (bit can) t) → fix ≡ set_below (count s) (fixed s p)
      → can ≡ attainable s u p x (bit 0) → set ≡ set_below (count s) (runs s u p x)
  unfolding runs
  runs_is set fix can e f g =
      e
      ∙ set_same (count s) (λ t. not (bit fix t) && has_parent s (bit can) t) (λ t. not (fixed s p t) && bit (attainable s u p x (bit 0)) (parent s t))
      (λ t l. rw (f, set_bit (count s) (fixed s p) ok.sized.few t l, g) (moves t (bit (attainable s u p x (bit 0)))))

  -- what X can sign
  pub signs_is : (set : ℕ) (known : List ℕ) → set ≡ set_below (count s) (λ t. signs s p x (get_or known t 0) t)
      → Filled (λ t v. v ≡ known_at s p x t) (count s) known → set ≡ set_below (count s) (λ t. signs s p x (known_at s p x t) t)
  signs_is set known e h =
      e ∙ set_same (count s) (λ t. signs s p x (get_or known t 0) t) (λ t. signs s p x (known_at s p x t) t) (λ t l. rw (h.each t l))

  -- what waits for any destination
  pub waits_is : (set : ℕ) → set ≡ set_below (count s) (waits_apart p nowhere) → set ≡ set_below (count s) (λ t. any_below destinations (waits_for p t))
  unfolding waits_apart
  waits_is set e =
      e
      ∙ set_same (count s) (waits_apart p nowhere) (λ t. any_below destinations (waits_for p t))
      (λ t l. any_same destinations (λ d. not (eqb d nowhere) && waits_for p t d) (waits_for p t) (λ d m. rw (ne_eqb d nowhere (λ f. omega (arith, f, m)))))

  shown_same : (shows : List ℕ) → Filled (λ t v. v ≡ secrets_of s t) (count s) shows → (members k : ℕ) → k < count s → shown_at shows members k ≡ shown_by s members k
  unfolding shown_at shown_by
  shown_same shows h members k l = rw (h.each k l)

  -- what X knows when t is next
  pub known_is : (have held secrets : ℕ) (shows : List ℕ) → held ≡ keys p x → secrets ≡ shared_secrets s (λ k. shared_any (slot p k)) → have ≡ bit_or held secrets
      → Filled (λ t v. v ≡ secrets_of s t) (count s) shows → (t members : ℕ) → members ≡ above s p t → bit_or have (shown_in s shows members) ≡ known_at s p x t
  unfolding shown_in known_at known_from
  known_is have held secrets shows a b c h t members e =
      rw (
        c,
        a,
        b,
        ← e,
        or_assoc (keys p x) (shared_secrets s (λ k. shared_any (slot p k))) (union_below (count s) (shown_at shows members)),
        union_same (count s) (shown_by s members) (shown_at shows members) (shown_same shows h members),
      )
