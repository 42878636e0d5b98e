-- The plain ledger linked to what is confirmed: the entry kept for a coin is that of its one confirmed transaction without a confirmed child.
-- Assumes nothing.
use Rattle.laws.proofs.Prelude.{ℕ, ◌<◌, ◌≡◌, false, List, ◌⊎◌, inl, inr, some, either}
use Rattle.position.proofs.Rules.{count, parent, opening, Checked, Entry, coin_of, Kept}
use Rattle.slots.proofs.Parents.{parent_below}

-- a confirmed child of t, where `block` gives each transaction's block, 0 while it is unconfirmed
abbrev pub Child : List ℕ → (ℕ → ℕ) → ℕ → Type 0
Child s block t = (k : ℕ) × (k < count s) × (parent s k ≡ t) × (0 < block k)

-- the entry is that of a confirmed transaction of the coin, without a confirmed child; `to` gives the destinations
pub record Leaf (s : List ℕ) (block to : ℕ → ℕ) (coin : ℕ) (e : Entry) : Type 0 where
  pub low : e.transaction < count s
  pub own : coin_of s e.transaction ≡ coin
  pub confirmed : 0 < block e.transaction
  pub height : e.block ≡ block e.transaction
  pub payee : e.destination ≡ to e.transaction
  pub childless : (k : ℕ) → k < count s → parent s k ≡ e.transaction → block k ≡ 0

pub record Linked (s : List ℕ) (block to : ℕ → ℕ) (kept : Kept) : Type 0 where
  pub parents : (t : ℕ) → t < count s → 0 < block t → opening s t ≡ false → 0 < block (parent s t)
  pub leaf : (coin : ℕ) (e : Entry) → kept coin ≡ some e → Leaf s block to coin e
  pub covers : (t : ℕ) → t < count s → 0 < block t → Child s block t ⊎ ((e : Entry) × (kept (coin_of s t) ≡ some e) × (e.transaction ≡ t))

-- only the sheet's transactions count
pub linked_by : {s : List ℕ} {block to block' to' : ℕ → ℕ} {kept : Kept} → Checked s → ((k : ℕ) → k < count s → block k ≡ block' k) → ((k : ℕ) → k < count s → to k ≡ to' k)
    → Linked s block to kept → Linked s block' to' kept
linked_by {s} ok eb et lk =
    record {
      parents = λ t l c o. rw (eb (parent s t) (parent_below ok t l o)) at (lk.parents t l (rw (eb t l) c) o);
      leaf = λ coin e h.
          let f = lk.leaf coin e h in
          record {
            low = f.low;
            own = f.own;
            confirmed = rw (eb e.transaction f.low) at f.confirmed;
            height = rw (eb e.transaction f.low) at f.height;
            payee = rw (et e.transaction f.low) at f.payee;
            childless = λ k l h. rw (eb k l) at (f.childless k l h);
          };
      covers = λ t l c. either (lk.covers t l (rw (eb t l) c)) (λ f. inl (f.0, f.1, f.2, rw (eb f.0 f.1) at f.3)) inr;
    }
