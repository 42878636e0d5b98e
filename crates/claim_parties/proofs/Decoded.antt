-- Bytes that do not name Carol are the same step, or refused, on both sheets.
-- Assumes nothing.
use Rattle.laws.proofs.Prelude.{ℕ, ◌≡◌, refl, fun_ext, false, List, eqb}
use Rattle.position.proofs.Rules.{Destination, Alice, Bob, Contract, carol, destination_number, is_payee, is_contract, Step, Option, None, sends_to, shares_to, is_other}
use Rattle.position.proofs.Rules.{fields_right, of_kind, spelled, range_checked, decode}
use Rattle.laws.specs.Cases.{picked_has}
use Rattle.claim_parties.proofs.Alike.{Alike}

module _ (s w u : List ℕ) (a : Alike s w) where
  contract_same : is_contract w ≡ is_contract s
  unfolding is_contract
  contract_same = fun_ext (λ t. rw a.entries)

  payee_same : (t party : ℕ) → eqb party carol ≡ false → is_payee w t party ≡ is_payee s t party
  unfolding is_payee
  payee_same t party n = rw (a.parties_same party n, a.entries)

  Same : Option Step → Type 0
  Same y = range_checked w u y ≡ range_checked s u y

  module _ (party t : ℕ) (n : eqb party carol ≡ false) (to : Destination) (m : eqb (destination_number to) carol ≡ false) where
    sends_same : sends_to w party t (destination_number to) ≡ sends_to s party t (destination_number to)
    unfolding sends_to
    sends_same = rw (contract_same, payee_same t party n)

    shares_same : shares_to w t (destination_number to) ≡ shares_to s t (destination_number to)
    unfolding shares_to
    shares_same = rw (contract_same, a.parties_same (destination_number to) m, payee_same t (destination_number to) m)

    other_same : is_other w party (destination_number to) ≡ is_other s party (destination_number to)
    unfolding is_other
    other_same = rw (a.parties_same (destination_number to) m)

    kind_same : (kind : ℕ) → Same (of_kind kind party t to)
    unfolding of_kind range_checked fields_right Same
    kind_same kind =
        picked_has Same (eqb kind 1) (rw (a.parties_same party n, a.transactions.counts, shares_same))
        (picked_has Same (eqb kind 2) (rw (a.parties_same party n, a.transactions.signatures_same, other_same))
        (picked_has Same (eqb kind 3) (rw (a.parties_same party n, a.transactions.counts, sends_same))
        (picked_has Same (eqb kind 4) (rw (a.parties_same party n, a.transactions.counts, sends_same))
        (picked_has Same (eqb kind 5) (rw a.transactions.counts)
        (picked_has Same (eqb kind 6) refl
        (picked_has Same (eqb kind 7) (rw a.transactions.counts)
        refl))))))

  pub decode_same : (kind party t d : ℕ) → eqb party carol ≡ false → eqb d carol ≡ false → decode w u kind party t d ≡ decode s u kind party t d
  unfolding decode spelled range_checked Same destination_number
  decode_same kind party t d n m =
      rw m
      (picked_has Same (eqb d 0) (kind_same party t n Alice refl kind)
      (picked_has Same (eqb d 1) (kind_same party t n Bob refl kind)
      (picked_has Same (eqb d 2) {y = None} (kind_same party t n Contract refl kind)
      refl)))
