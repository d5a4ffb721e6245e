-- What `ok_or` and `?` tell of the option that was asked.
use mathlib.Core.Path.{◌≡◌}
use Rattle.std.proofs.Common.{rules}
use Rattle.std.specs.Prelude.{Option, Some, None, Ok, Err, ok_or}
use Rattle.refusals.specs.declared.Refusal.{Refusal}

module _ {T : Type 0} (P : Option T → Type 0) (e : Refusal) where
  pub some_met : (o : Option T) {x : T} → Ok x ≡ ok_or o e → P o → P (Some x)
  some_met None q p = search rules
  some_met (Some y) {x} q p = let same : y ≡ x = search rules in rw same at p

  pub none_met : (o : Option T) {x : Refusal} → Err x ≡ ok_or o e → P o → P None × (x ≡ e)
  none_met None {x} q p = let same : x ≡ e = search rules in (p, same)
  none_met (Some y) q p = search rules
