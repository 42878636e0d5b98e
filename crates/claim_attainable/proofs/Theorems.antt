-- Nobody confirms what nobody else can sign: the claims of specs/Claim.antt.
-- Assumes nothing.
use Rattle.laws.proofs.Prelude.{ℕ, ◌<◌, ◌≡◌, refl, ◌∙◌, Bool, true, false, not, ◌&&◌, List, [], ◌∷◌, ◌⊎◌, inl, inr, eqb, ne_eqb, either, and_parts, any_below, any_found}
use Rattle.laws.proofs.Prelude.{every, set_bit}
use Rattle.position.proofs.Rules.{count, sheet_refusal, setup_refusal, destinations, is_party, start, is_confirmed, confirmed_to, FourBytes, play}
use Rattle.position.specs.declared.Position.{Position}
use Rattle.sheet.proofs.Theorems.{sheet_checked}
use Rattle.claim_ledger.proofs.Sound.{Sound}
use Rattle.claim_ledger.proofs.SoundSteps.{sound_start, sound_play}
use Rattle.attainable.specs.Attainable.{comes, attainable, attainable_elsewhere, Closed}
use Rattle.claim_attainable.specs.Words.{step_of, without, sends_only}
use Rattle.claim_attainable.specs.Claim.{Foreseen, Attainability}
use Rattle.attainable.proofs.Rounds.{least}
use Rattle.claim_attainable.proofs.Actors.{in_chain}
use Rattle.claim_attainable.proofs.Alive.{has_block}
use Rattle.claim_attainable.proofs.Bounded.{Bounded, right_small, first}
use Rattle.claim_attainable.proofs.Shrinking.{still_closed}
use Rattle.claim_attainable.proofs.Played.{held_play}

-- what is confirmed then, by the closed set that the attainable one is
module _ (s u : List ℕ) (h : sheet_refusal s ≡ 0) (k : setup_refusal s u ≡ 0) (p : Position) (g : Sound s u p) (x : ℕ) (who : is_party s x ≡ true) (also : ℕ → Bool) where
  within : Closed s u p x also (attainable s u p x also)
  within = (least s u (sheet_checked s h) p x also).closed

  held : (bs : List FourBytes) → sends_only x also bs ≡ true → Bounded s u (sheet_checked s h) p x who also (attainable s u p x also) within (play s u bs p)
  held bs i =
      let w = first s u (sheet_checked s h) p x who also (attainable s u p x also) within g in
      held_play s u h k p x who also (attainable s u p x also) within bs p w i

  module _ (bs : List FourBytes) (i : sends_only x also bs ≡ true) (t : ℕ) (l : t < count s) (c : is_confirmed (play s u bs p) t ≡ true) where
    abbrev to : ℕ
    to = confirmed_to (play s u bs p) t

    right : to < destinations
    right = right_small s t to ((sound_play s u h k bs p g).confirmed_to_lem t l c)

    brought : (is_confirmed p t ≡ true) ⊎ (comes s u p x also (attainable s u p x also) t to ≡ true)
    brought = (held bs i).entries t to (in_chain (has_block (play s u bs p) t c) refl)

  foreseen : (bs : List FourBytes) → sends_only x also bs ≡ true → Foreseen s u p (play s u bs p) x also
  unfolding attainable_elsewhere
  foreseen bs i =
      let members = attainable s u p x also in
      record {
        confirmed = λ t l c. either (brought bs i t l c) inl (λ y. inr (within t l (to bs i t l c) (right bs i t l c) y));
        elsewhere = λ t l c off.
            either (brought bs i t l c)
            inl
            (λ y.
            let d = to bs i t l c in
            inr
            (set_bit (count s) (λ j. any_below destinations (λ e. not (eqb e x) && comes s u p x also members j e)) (sheet_checked s h).sized.few t l
            ∙ any_found destinations d (λ e. not (eqb e x) && comes s u p x also members t e) (right bs i t l c) (rw (ne_eqb d x off, y))));
        fewer =
            (least s u (sheet_checked s h) (play s u bs p) x also).least members
            (still_closed s u (sheet_checked s h) p x who also members within (play s u bs p) (held bs i));
      }

-- no step at all is no step but sends of none
without_sends : (x : ℕ) (bs : List FourBytes) → without x bs ≡ true → sends_only x (λ t. false) bs ≡ true
unfolding without sends_only every
without_sends x [] h = refl
without_sends x (b ∷ bs) h =
    let w = and_parts (not (step_of x b)) (every (λ y. not (step_of x y)) bs) h in
    rw w.0 (without_sends x bs w.1)

-- For every sheet and setup whose checks give 0, every list of steps, every party and every further list.
pub attainability : Attainability
attainability s u h k now x who =
    let p = play s u now (start s) in
    let g = sound_play s u h k now (start s) (sound_start s u) in
    record {
      least = λ also. least s u (sheet_checked s h) p x also;
      nobody = λ bs i. foreseen s u h k p g x who (λ t. false) bs (without_sends x bs i);
      sending = λ also bs i. foreseen s u h k p g x who also bs i;
    }
