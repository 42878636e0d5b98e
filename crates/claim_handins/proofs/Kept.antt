-- A step of kind 1, 2 or 3, and a row of them, leaves every block entry as it was.
-- Assumes nothing.
use Rattle.laws.proofs.Prelude.{ℕ, ◌≡◌, refl, ap, ◌∙◌, true, List, [], ◌∷◌, eqb, split, clash, and_parts, every}
use Rattle.position.proofs.Rules.{Step, Share, Give, SendToPool, HandToMiner, Include, Mine, Bump, contract, destination_number, with_pool, with_shared, with_mark}
use Rattle.position.proofs.Rules.{no_transaction, step_bytes, slot, first_shares, with_key, share_one, share_each, after_share, after_give, after_send, effect}
use Rattle.position.specs.declared.Position.{Position}
use Rattle.position.proofs.Rules.{FourBytes, decode_bytes, step}
use Rattle.position.proofs.Changed.{one_kept}
use Rattle.position.proofs.StepCases.{StepCase, taken, turned_down, step_case}
use Rattle.dated.specs.declared.Dated.{Dated}
use Rattle.dated.specs.Dated.{dated_step}
use Rattle.dated.proofs.Forgetting.{step_position}
use Rattle.claim_handins.specs.Early.{early_kind, early}
use Rattle.claim_handins.specs.Claim.{play_dated}
use Rattle.claim_handins.proofs.Refusals.{early_step}
use Rattle.claim_handins.proofs.Rows.{read_early}

-- the block entry of t
abbrev entry : Position → ℕ → ℕ
entry p t = (slot p t).block

module _ (s : List ℕ) (t : ℕ) where
  one_entry : (party k d : ℕ) (p : Position) → entry (share_one s party k d p) t ≡ entry p t
  unfolding share_one with_mark with_shared
  one_entry party k d p = one_kept k _ p (λ x. x.block) (λ x. refl) t

  each_entry : (party : ℕ) (l : List ℕ) (p : Position) → entry (share_each s party l p) t ≡ entry p t
  unfolding share_each
  each_entry party [] p = refl
  each_entry party (k ∷ l) p = each_entry party l (share_one s party k contract p) ∙ one_entry party k contract p

  effect_entry : (x : Step) → early_step x ≡ true → (p : Position) → entry (effect s p x) t ≡ entry p t
  unfolding effect after_share after_give after_send with_key slot with_pool with_shared early_step early_kind step_bytes
  effect_entry (Share party k to) e p =
      split (eqb k no_transaction)
      (λ y. rw y (each_entry party (first_shares party) p))
      (λ y. rw y (one_entry party k (destination_number to) p))
  effect_entry (Give party i to) e p = refl
  effect_entry (SendToPool party k to) e p = one_kept k _ p (λ x. x.block) (λ x. refl) t
  effect_entry (HandToMiner party k to) e p = clash e refl
  effect_entry (Include party k to) e p = clash e refl
  effect_entry (Mine party k to) e p = clash e refl
  effect_entry (Bump party k to) e p = clash e refl

module _ (s u : List ℕ) (t : ℕ) where
  step_entry : (b : FourBytes) → early b ≡ true → (p : Position) → entry (step s u p b).position t ≡ entry p t
  unfolding decode_bytes early
  step_entry b e p = by (step_case s u p b)
    where
      by : StepCase s u p b → entry (step s u p b).position t ≡ entry p t
      by (taken x d f r is) = rw is (effect_entry s t x (read_early s u b.kind b.party b.transaction b.destination e x d) p)
      by (turned_down n m is) = rw is

  pub row_entry : (bs : List FourBytes) → every early bs ≡ true → (d : Dated) → entry (play_dated s u bs d).position t ≡ entry d.position t
  unfolding play_dated every
  row_entry [] e d = refl
  row_entry (b ∷ bs) e d =
      let h = and_parts (early b) (every early bs) e in
      row_entry bs h.1 (dated_step s u d b).dated ∙ ap (λ p. entry p t) (step_position s u d b) ∙ step_entry b h.0 d.position
