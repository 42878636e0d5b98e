-- Where nothing is counted on, nothing is to be sent.
-- Assumes nothing.
use Rattle.std.specs.Prelude.{None}
use Rattle.laws.proofs.Prelude.{ℕ, ◌≡◌, false, and-false, List, eqb, ltb, le-ltb, split, arith}
use Rattle.sheet.specs.Field.{count, is_party}
use Rattle.sheet.specs.Checked.{Checked}
use Rattle.slots.specs.declared.Destination.{Destination}
use Rattle.slots.specs.declared.Destination.TheVariants.{Alice, Bob, Contract, Carol}
use Rattle.steps.specs.Decode.{fields_right, of_kind, spelled, range_checked, decode}
use Rattle.position.specs.declared.Position.{Position}
use Rattle.position.specs.Play.{decode_bytes, take_decoded, step}
use Rattle.slack.specs.Beaten.{destination_of}
use Rattle.slack.specs.Counted.{none}
use Rattle.call_slack.specs.Row.{is_open, is_due}

module _ (s u : List ℕ) (ok : Checked s) (x : ℕ) where
  -- no transaction has that number
  beyond : ltb none (count s) ≡ false
  beyond = le-ltb none (count s) (omega (arith, ok.sized.few))

  -- a send of it has a wrong field, whomever it names
  module _ (kind : ℕ) (send : (to : Destination) → range_checked s u (of_kind kind x none to) ≡ None) where
    wrong_field : (d : ℕ) → decode s u kind x none d ≡ None
    unfolding decode spelled range_checked
    wrong_field d =
        split (eqb d 0)
        (λ a. rw a (send Alice))
        (λ a.
        split (eqb d 1)
        (λ b. rw (a, b) (send Bob))
        (λ b.
        split (eqb d 2)
        (λ e. rw (a, b, e) (send Contract))
        (λ e. split (eqb d 3) (λ f. rw (a, b, e, f) (send Carol)) (λ f. rw (a, b, e, f)))))

    not_open : (p : Position) → is_open s u p x none kind ≡ false
    unfolding is_open step decode_bytes take_decoded
    not_open p = rw (wrong_field (destination_of s x none))

  pub none_due : (p : Position) (blocks : ℕ) → is_due s u p x blocks none ≡ false
  unfolding is_due of_kind range_checked fields_right
  none_due p blocks =
      let out = and-false (is_party s x) in
      rw (not_open 3 (λ to. rw (beyond, out)) p, not_open 4 (λ to. rw (beyond, out)) p) (and-false (eqb blocks 0))
