-- The answers, of every position and party of which the record was read: a loop that looks for secrets shown, and one over the transactions.
-- Assumes nothing.
use Rattle.laws.proofs.Prelude.{ℕ, ◌-◌, ◌^◌, ◌≤◌, ◌<◌, ◌≡◌, ap, ◌∙◌, true, not, ◌&&◌, ◌||◌, List, eqb, arith, bit_and, bit_or, or_lt, clash, any_below, bit, bit_or_lem, no_bit}
use Rattle.laws.proofs.Prelude.{set_below, set_bit, set_same, set_small}
use Rattle.position.proofs.Rules.{count, Checked, destinations}
use Rattle.position.specs.declared.Position.{Position}
use lib.Bits.{or_add_and, and_le_r}
use Rattle.attainable.specs.declared.Others.{Others}
use Rattle.attainable.specs.Attainable.{comes, attainable, attainable_elsewhere}
use Rattle.attainable.specs.Forms.Others.{waits_apart, sends_apart, Reads}
use Rattle.attainable.specs.Forms.Round.{signs_in, signers, can_of, reach_set, shown_in, asked_in, asked_elsewhere, Attains, AttainsElsewhere}
use Rattle.attainable.proofs.Masks.{set_and}
use Rattle.attainable.proofs.Rounds.{attained_set}
use Rattle.attainable.proofs.Signing.{shown_of}
use Rattle.attainable.proofs.Attained.{shown_of_lem, shown_within, found_all, elsewhere_is}

-- an or is no less than its part
pub or_more : (a b : ℕ) → a ≤ bit_or a b
or_more a b = omega (arith, or_add_and a b, and_le_r a b)

-- these secrets are shown by what can come
pub record Shown (s : List ℕ) (o : Others) (also secrets : ℕ) : Type 0 where
  pub by : (u : List ℕ) (p : Position) (x : ℕ) → Reads s u p x o → (i : ℕ) → bit secrets i ≡ true → bit (shown_of s (attainable s u p x (bit also))) i ≡ true

module _ (s : List ℕ) (o : Others) (also : ℕ) where
  pub shown_start : Shown s o also 0
  shown_start = record { by = λ u p x r i h. clash h (no_bit i) }

  -- a turn with some secrets: what it shows is shown by what can come; where that is no more, the set is what can come
  module _ (ok : Checked s) (secrets wide signed members shows : ℕ) (h : Shown s o also secrets) (w : wide ≡ secrets) (small : secrets < 256)
      (ec : signed ≡ signers s o wide)
      (em : members ≡ reach_set s o.confirmed (bit_and (bit_or (bit_or o.waits (bit_and also o.sends)) signed) (4294967295 - o.gone)))
      (es : shows ≡ shown_in s o.shows members) where
    reached : members ≡ reach_set s o.confirmed (can_of s o (asked_in o also) secrets)
    unfolding asked_in can_of
    reached = rw (em, ec, w)

    pub shown_more : Shown s o also (bit_or secrets shows)
    shown_more = rw (es, reached) (record { by = λ u p x r. shown_within s u ok p x also o r secrets small (h.by u p x r) })

    pub attained : bit_or secrets shows ≡ secrets → Attains s o also members
    attained e =
        let f : bit_or secrets (shown_in s o.shows (reach_set s o.confirmed (can_of s o (asked_in o also) secrets))) ≡ secrets = rw (es, reached) at e in
        rw reached (record { is = λ u p x r. found_all s u ok p x also o r secrets small (h.by u p x r) f })

    pub secrets_left : (bit_or secrets shows ≡ secrets → ⊥) → 256 - bit_or secrets shows < 256 - secrets
    secrets_left n = omega (arith, small, or_more secrets shows, n)

  module _ (ok : Checked s) (all shows secrets signed : ℕ) (a : Attains s o also all) (e : shows ≡ shown_in s o.shows all)
      (w : secrets ≡ shows) (small : secrets < 256) (ec : signed ≡ signers s o secrets) where
    abbrev few : count s ≤ 32
    few = ok.sized.few

    -- those that wait, are lent or are signed
    abbrev moved : ℕ
    moved = bit_or (asked_elsewhere o also) signed

    moved_bit : (t : ℕ) → t < count s → bit moved t ≡ (bit (asked_elsewhere o also) t || signs_in o secrets t)
    unfolding signers
    moved_bit t l = bit_or_lem (asked_elsewhere o also) signed t ∙ rw (ec, set_bit (count s) (signs_in o secrets) few t l)

    moved_small : (u : List ℕ) (p : Position) (x : ℕ) → Reads s u p x o → moved < 2 ^ 32
    unfolding asked_elsewhere signers
    moved_small u p x r =
        let waiting : o.waits_elsewhere < 2 ^ 32 = rw r.waits_elsewhere (set_small 32 (count s) (waits_apart p x) few) in
        let sending : o.sends_elsewhere < 2 ^ 32 = rw r.sends_elsewhere (set_small 32 (count s) (sends_apart s x x) few) in
        let lent : bit_and also o.sends_elsewhere < 2 ^ 32 = omega (arith, sending, and_le_r also o.sends_elsewhere) in
        or_lt 32 (asked_elsewhere o also) signed
        (or_lt 32 o.waits_elsewhere (bit_and also o.sends_elsewhere) waiting lent)
        (rw ec (set_small 32 (count s) (signs_in o secrets) few))

    pub attained_elsewhere : AttainsElsewhere s o also (bit_and all (bit_or (bit_or o.waits_elsewhere (bit_and also o.sends_elsewhere)) signed))
    unfolding attainable_elsewhere asked_elsewhere
    attained_elsewhere =
        record {
          is = λ u p x r.
              let members = attainable s u p x (bit also) in
              let same : all ≡ set_below (count s) (bit members) = a.is u p x r ∙ attained_set s u ok p x (bit also) in
              let exact : secrets ≡ shown_of s members = w ∙ e ∙ rw (a.is u p x r) (shown_of_lem s u ok p x also o r members) in
              ap (λ (m : ℕ). bit_and m moved) same
              ∙ set_and (count s) (bit members) moved few (moved_small u p x r)
              ∙ set_same (count s) (λ t. bit members t && bit moved t)
              (λ t. any_below destinations (λ d. not (eqb d x) && comes s u p x (bit also) members t d))
              (λ t l. rw (moved_bit t l) (elsewhere_is s u ok p x also o r secrets small exact t l));
        }
