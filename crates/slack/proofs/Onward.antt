-- What X can count on in a position p, against one that a step without X leads to, q: words for it, and what the laws of slack give.
-- Assumes nothing.
use Rattle.laws.proofs.Prelude.{ℕ, ◌≤◌, ◌<◌, ◌≡◌, true, false, List, bit}
use Rattle.position.proofs.Rules.{count, parent, opening, per_day, is_self_or_ancestor, shared_any, shared_secrets, slot, block_of, is_confirmed}
use Rattle.position.specs.declared.Position.{Position}
use Rattle.soonest.specs.Soonest.{soonest_parent}
use Rattle.attainable.specs.Attainable.{gone}
use Rattle.slack.specs.Beaten.{above, can_come_elsewhere, stands, beats, last}
use Rattle.slack.specs.Kept.{known_at, free, paid}

-- each member of the one set is in the other
abbrev pub Within : List ℕ → ℕ → ℕ → Type 0
Within s a b = (k : ℕ) → k < count s → bit a k ≡ true → bit b k ≡ true

-- each signature of the one mask is in the other
abbrev pub Fewer : ℕ → ℕ → Type 0
Fewer a b = (i : ℕ) → i < 32 → bit a i ≡ true → bit b i ≡ true

-- the soonest block of t's parent
abbrev pub soonest_above : List ℕ → List ℕ → Position → ℕ → ℕ
soonest_above s u p t = soonest_parent s (per_day u) (block_of p) p.mined t

-- the secrets in shared knowledge
abbrev pub secrets_shown : List ℕ → Position → ℕ
secrets_shown s p = shared_secrets s (λ k. shared_any (slot p k))

-- what X can count on in p, up to a height, it can in q, up to one that is no greater: by these laws, for heights up to `most`
pub record Steady (s u : List ℕ) (p q : Position) (x most : ℕ) : Type 0 where
  -- what comes before t in q, with fewer blocks and sends of X, does so in p
  pub beaten : (a b off more t r : ℕ) → t < count s → r < count s → Within s a b → off ≤ more → p.mined ≤ more → gone s q t ≡ false
      → beats s u q x a off t r ≡ true → beats s u p x b more t r ≡ true
  pub standing : (know known off more t : ℕ) → t < count s → Fewer know known → off ≤ more → p.mined ≤ more → gone s q t ≡ false
      → stands s u p x know more t ≡ true → stands s u q x known off t ≡ true
  -- the ancestors still to be confirmed are fewer, what can come for others is, what X knows is more, and it waits no longer
  pub above_fewer : (t : ℕ) → t < count s → Within s (above s q t) (above s p t)
  pub elsewhere_fewer : (t r : ℕ) → t < count s → r < count s → bit (can_come_elsewhere s u q x 0 t) r ≡ true → bit (can_come_elsewhere s u p x 0 t) r ≡ true
  pub known_more : (t : ℕ) → t < count s → Fewer (known_at s p x t) (known_at s q x t)
  pub last_less : (off more t : ℕ) → t < count s → off ≤ more → more ≤ most
      → last s u q x (known_at s q x t) off t ≤ last s u p x (known_at s p x t) more t

-- what is confirmed stays so, and what X counts on is not dead in q: a child of what is not gone, and a line of another coin
pub record Alive (s u : List ℕ) (p q : Position) (x : ℕ) : Type 0 where
  pub stays : (t : ℕ) → t < count s → is_confirmed p t ≡ true → is_confirmed q t ≡ true
  pub child : (know off c : ℕ) → c < count s → opening s c ≡ false → stands s u p x know off c ≡ true → gone s q (parent s c) ≡ false → gone s q c ≡ false
  pub line : (know b off t w : ℕ) → t < count s → w < count s → p.mined ≤ off → free s u p x know b off t ≡ true → is_self_or_ancestor s w t ≡ true
      → is_confirmed q w ≡ false → gone s q w ≡ false
  pub unpaid : (know b off t : ℕ) → t < count s → free s u p x know b off t ≡ true → paid s q x ≡ false → is_confirmed q t ≡ false
