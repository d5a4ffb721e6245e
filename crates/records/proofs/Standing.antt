-- Which steps stand, in the request's words.
use mathlib.Core.Path.{◌≡◌, refl, sym, ◌∙◌, ap}
use mathlib.Core.Bool.{false, ◌&&◌, cond}
use mathlib.Core.List.{List, [], ◌∷◌, ◌++◌}
use Prim.Native.Nat.{ℕ, zero, suc}
use lib.Dec.{eqb}
use borrow.Author.Tests.{eq-eqb, ne_eqb}
use Rattle.base.proofs.Cases.{case, eq_ne}
use Rattle.base.proofs.Tests.{never, or_false}
use Rattle.records.specs.declared.Record.{Record}
use Rattle.records.specs.Records.{record_of}
use Rattle.records.specs.Standing.{Stand, stand, stands_in, stands_after, is_set_by}
use Rattle.records.specs.Claims.{StandingSaid}

stands_on : (rs later : List Record) (s : Stand) → stands_after s (rs ++ later) ≡ stands_after (stands_after s rs) later
unfolding stands_after
stands_on [] later s = refl
stands_on (r ∷ rs) later s = stands_on rs later (stands_in r.kind s r.number)

-- only its own mark keeps what a setting notes
kept_one : (k x m : ℕ) (s : Stand) → (eqb k 1 && eqb x m) ≡ false → (stands_in k s x).at m ≡ s.at m
kept_one zero x m s h = refl
kept_one (suc zero) x m s h =
    case (eq_ne x m)
    (λ e. absurd (never _ (eq-eqb x m e) h))
    (λ d. ap (λ b. cond b s.now (s.at m)) (ne_eqb m x (λ e. d (sym e))))
kept_one (suc (suc zero)) x m s h = refl
kept_one (suc (suc (suc k))) x m s h = refl

kept : (rs : List Record) (m : ℕ) (s : Stand) → is_set_by rs m ≡ false → (stands_after s rs).at m ≡ s.at m
unfolding stands_after is_set_by
kept [] m s h = refl
kept (r ∷ rs) m s h =
    let none = or_false _ _ h in
    kept rs m (stands_in r.kind s r.number) none.1 ∙ kept_one r.kind r.number m s none.0

abbrev none : Stand
none = stand [] (λ i. [])

pub standing_said : StandingSaid
unfolding stands_after
standing_said = record {
  at_first = refl;
  after_step = λ rs x. ap (λ (s : Stand). s.now) (stands_on rs (record_of 0 x ∷ []) none);
  after_mark = λ rs m. ap (λ (s : Stand). s.now) (stands_on rs (record_of 1 m ∷ []) none);
  after_return = λ earlier later m h.
      let then = stands_after none earlier in
      let noted = stands_in 1 then m in
      ap (λ (s : Stand). s.now) (stands_on earlier (record_of 1 m ∷ (later ++ (record_of 2 m ∷ []))) none)
      ∙ ap (λ (s : Stand). s.now) (stands_on later (record_of 2 m ∷ []) noted)
      ∙ kept later m noted h
      ∙ ap (λ b. cond b then.now (then.at m)) (eq-eqb m m refl);
}
