-- The steps standing, from the records alone: no working is looked at.
use Rattle.std.specs.Prelude.{Bool, false, ◌&&◌, ◌||◌, cond, List, [], ◌∷◌, ◌++◌, ℕ, zero, suc, eqb}
use Rattle.records.specs.declared.Record.{Record}

-- The steps that stand, and for each mark those that stood when it was last set.
pub record Stand : Type 0 where
  pub now : List ℕ
  pub at : ℕ → List ℕ

abbrev pub stand : List ℕ → (ℕ → List ℕ) → Stand
stand now at = record { now = now; at = at }

-- A step follows those standing. A mark notes them. A return: those stand that stood at that setting, and later ones follow them.
abbrev pub stands_in : ℕ → Stand → ℕ → Stand
stands_in zero s x = stand (s.now ++ (x ∷ [])) s.at
stands_in (suc zero) s m = stand s.now (λ i. cond (eqb i m) s.now (s.at i))
stands_in (suc (suc zero)) s m = stand (s.at m) s.at
stands_in (suc (suc (suc k))) s x = s

unfoldable pub stands_after : Stand → List Record → Stand
stands_after s [] = s
stands_after s (r ∷ rs) = stands_after (stands_in r.kind s r.number) rs

abbrev pub standing : List Record → List ℕ
standing rs = (stands_after (stand [] (λ i. [])) rs).now

-- does some record set mark m?
unfoldable pub is_set_by : List Record → ℕ → Bool
is_set_by [] m = false
is_set_by (r ∷ rs) m = (eqb r.kind 1 && eqb r.number m) || is_set_by rs m

-- steps as records of kind 0, in bytes
unfoldable pub step_bytes : List ℕ → List ℕ
step_bytes [] = []
step_bytes (x ∷ xs) = 0 ∷ (x ∷ step_bytes xs)
