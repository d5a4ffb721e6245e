-- The reader and the form agree.
use mathlib.Core.Path.{◌≡◌, refl}
use mathlib.Core.Bool.{true, false}
use mathlib.Core.List.{List, [], ◌∷◌, ◌++◌}
use mathlib.Core.Logic.{◌⊎◌, inl, inr}
use Prim.Native.Nat.{ℕ, suc}
use native.Mathlib.Omega.{arith}
use lib.ListN.{length, length-append}
use Rattle.base.proofs.Cases.{case}
use Rattle.sections.proofs.LabelLaws.{same_true, same_equal}
use Rattle.words.specs.Words.{Words, words}
use Rattle.words.specs.Met.{keyword}
use Rattle.words.proofs.WordLaws.{words_few}
use Rattle.headings.specs.Keywords.{hierarchy_word, motion_word}
use Rattle.hierarchy.specs.Hierarchy.{Joints, no_joints, left, behind, ends, hierarchy}
use Rattle.hierarchy.specs.Spelt.{Roots, spelt_roots, joints_in, Spells}
use Rattle.hierarchy.specs.Claims.{ReadSpelt, OneHierarchy}
use Rattle.hierarchy.proofs.MetLaws.{keyword_met, met_keyword}
use Rattle.hierarchy.proofs.FormRead.{roots_read}
use Rattle.hierarchy.proofs.ReadForm.{left_behind, read_roots}

-- THE END, of the text or at MOTION
abbrev Ended : Words → Type 0
Ended ws = (ws ≡ []) ⊎ ((motion : Words) × (ws ≡ motion_word ∷ motion))

ends_ended : (ws : Words) → ends ws ≡ true → Ended ws
unfolding ends
ends_ended [] h = inl refl
ends_ended (w ∷ ws) h = inr (ws, let e = same_equal w motion_word h in cc)

ended_ends : (ws : Words) → Ended ws → ends ws ≡ true
unfolding ends
ended_ends ws h = case h (λ e. rw e) (λ m. rw m.1 (same_true motion_word motion_word refl))

-- WHAT A TEXT SPELLS is read
spelt_read : (s : List ℕ) (h : Roots) (p : Spells s h) → hierarchy s ≡ left p.after (joints_in h)
unfolding hierarchy behind
spelt_read s h p =
    let whole : length (words s) ≡ suc (length (spelt_roots h ++ p.after)) = rw p.whole in
    let most = words_few false s in
    let long = length-append (spelt_roots h) p.after in
    rw (p.whole, keyword_met) (roots_read h (suc (length s)) p.after no_joints p.nests (ended_ends p.after p.ended) (omega arith))

-- and what is read is spelt
read_spells : (s : List ℕ) (ws : Words) (js : Joints) → hierarchy s ≡ left ws js → (h : Roots) × (Spells s h × (js ≡ joints_in h))
unfolding hierarchy
read_spells s ws js h =
    let (on, (word, met)) = left_behind (keyword hierarchy_word (words s)) no_joints _ ws js h in
    let begun = met_keyword hierarchy_word (words s) on word in
    let r = read_roots (suc (length s)) on no_joints ws js met in
    let spelt = r.spelt in
    (r.blocks, (record { nests = r.nests; after = ws; whole = cc; ended = ends_ended ws r.ended }, r.joints))

pub read_spelt : ReadSpelt
read_spelt s js = (
  λ r. read_spells s r.0 js r.1,
  λ h. (h.1.0.after, rw h.1.1 (spelt_read s h.0 h.1.0)),
)

pub one_hierarchy : OneHierarchy
one_hierarchy s h h' p p' = let a = spelt_read s h p in let b = spelt_read s h' p' in cc
