-- One of five texts.
use Rattle.laws.proofs.Prelude.{ℕ, ◌≡◌, refl, arith}
use Rattle.std.specs.Prelude.{◌≢◌}
use Rattle.call_page.specs.Page.{dash_text, payee_text}
use Rattle.call_page.proofs.Columns.{same_column, room_as, written_as}
use Rattle.call_page.proofs.Names.{is_alice, is_bob, is_contract_lem, is_carol, is_nobody}
use Rattle.call_page.proofs.line.write_payee.Goals as goal

-- none of the four
nobody : (payee : ℕ) → payee ≢ 0 → payee ≢ 1 → payee ≢ 2 → payee ≢ 3 → dash_text ≡ payee_text payee
nobody payee a b c d = is_nobody payee {A = ℕ} ((((payee, a), b), c), d)

pub write_text-requires : goal.write_text-requires
write_text-requires c = room_as (same_column refl (is_alice _ c.in-0.is)) c.requires

pub returns-in-0-clause-value : goal.returns-in-0-clause-value
returns-in-0-clause-value c = (written_as (same_column refl (is_alice _ c.in-0.is)) _ (c.write_text.ensures.value, c.write_text.ensures.out_after)).0

pub returns-in-0-clause-out_after : goal.returns-in-0-clause-out_after
returns-in-0-clause-out_after c = (written_as (same_column refl (is_alice _ c.in-0.is)) _ (c.write_text.ensures.value, c.write_text.ensures.out_after)).1

pub write_text-requires-in-1 : goal.write_text-requires-in-1
write_text-requires-in-1 c = room_as (same_column refl (is_bob _ c.in-1.is)) c.requires

pub returns-in-1-clause-value : goal.returns-in-1-clause-value
returns-in-1-clause-value c = (written_as (same_column refl (is_bob _ c.in-1.is)) _ (c.write_text-in-1.ensures.value, c.write_text-in-1.ensures.out_after)).0

pub returns-in-1-clause-out_after : goal.returns-in-1-clause-out_after
returns-in-1-clause-out_after c = (written_as (same_column refl (is_bob _ c.in-1.is)) _ (c.write_text-in-1.ensures.value, c.write_text-in-1.ensures.out_after)).1

pub write_text-requires-in-2 : goal.write_text-requires-in-2
write_text-requires-in-2 c = room_as (same_column refl (is_contract_lem _ c.in-2.is)) c.requires

pub returns-in-2-clause-value : goal.returns-in-2-clause-value
returns-in-2-clause-value c = (written_as (same_column refl (is_contract_lem _ c.in-2.is)) _ (c.write_text-in-2.ensures.value, c.write_text-in-2.ensures.out_after)).0

pub returns-in-2-clause-out_after : goal.returns-in-2-clause-out_after
returns-in-2-clause-out_after c = (written_as (same_column refl (is_contract_lem _ c.in-2.is)) _ (c.write_text-in-2.ensures.value, c.write_text-in-2.ensures.out_after)).1

pub write_text-requires-in-3 : goal.write_text-requires-in-3
write_text-requires-in-3 c = room_as (same_column refl (is_carol _ c.in-3.is)) c.requires

pub returns-in-3-clause-value : goal.returns-in-3-clause-value
returns-in-3-clause-value c = (written_as (same_column refl (is_carol _ c.in-3.is)) _ (c.write_text-in-3.ensures.value, c.write_text-in-3.ensures.out_after)).0

pub returns-in-3-clause-out_after : goal.returns-in-3-clause-out_after
returns-in-3-clause-out_after c = (written_as (same_column refl (is_carol _ c.in-3.is)) _ (c.write_text-in-3.ensures.value, c.write_text-in-3.ensures.out_after)).1

pub write_text-requires-in_default : goal.write_text-requires-in_default
write_text-requires-in_default c = room_as (same_column refl (nobody _ (omega arith) (omega arith) (omega arith) (omega arith))) c.requires

pub returns-in_default-clause-value : goal.returns-in_default-clause-value
returns-in_default-clause-value c = (written_as (same_column refl (nobody _ (omega arith) (omega arith) (omega arith) (omega arith))) _ (c.write_text-in_default.ensures.value, c.write_text-in_default.ensures.out_after)).0

pub returns-in_default-clause-out_after : goal.returns-in_default-clause-out_after
returns-in_default-clause-out_after c = (written_as (same_column refl (nobody _ (omega arith) (omega arith) (omega arith) (omega arith))) _ (c.write_text-in_default.ensures.value, c.write_text-in_default.ensures.out_after)).1
