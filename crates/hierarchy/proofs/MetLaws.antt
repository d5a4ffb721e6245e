-- Words met in their places, both ways: what is spelt there is met, and what is met is spelt there.
use mathlib.Core.Path.{◌≡◌, refl, ap}
use mathlib.Core.List.{List, [], ◌∷◌, ◌++◌}
use mathlib.Core.Option.{none, some, bind, bind-eq-some_iff}
use Prim.Native.Nat.{ℕ, zero, suc}
use lib.ListN.{length}
use Rattle.base.proofs.Cases.{case, both_ways}
use Rattle.sections.specs.Labels.{same_bytes}
use Rattle.sections.proofs.LabelLaws.{same_true, same_equal}
use Rattle.words.specs.Words.{Words}
use Rattle.words.specs.Met.{keyword, any_words, all_digits, counted}
use Rattle.writing.specs.Claims.{value_after}
use Rattle.headings.specs.Keywords.{open_word, offset_word, channels_word, site_word, close_word}
use Rattle.headings.specs.Headings.{opening, heading, site}
use Rattle.hierarchy.specs.Spelt.{Offset, Channels, spelt_offset, spelt_heading}

-- A KEYWORD
pub keyword_met : (key : List ℕ) (ws : Words) → keyword key (key ∷ ws) ≡ some ws
unfolding keyword
keyword_met key ws = rw (same_true key key refl)

pub met_keyword : (key : List ℕ) (ws ws' : Words) → keyword key ws ≡ some ws' → ws ≡ key ∷ ws'
unfolding keyword
met_keyword key [] ws' h = cc
met_keyword key (w ∷ ws) ws' h =
    case (both_ways (same_bytes w key))
    (λ t. let e : some ws ≡ some ws' = rw t at h in let q = same_equal w key t in cc)
    (λ f. let e : none ≡ some ws' = rw f at h in cc)

-- ANY WORDS
any_met : (v ws : Words) → any_words (length v) (v ++ ws) ≡ some ws
unfolding any_words
any_met [] ws = refl
any_met (w ∷ v) ws = any_met v ws

met_any : (k : ℕ) (ws ws' : Words) → any_words k ws ≡ some ws' → (v : Words) × ((k ≡ length v) × (ws ≡ v ++ ws'))
unfolding any_words
met_any zero ws ws' h = ([], (refl, cc))
met_any (suc k) [] ws' h = cc
met_any (suc k) (w ∷ ws) ws' h =
    let (v, (e, q)) = met_any k ws ws' h in
    (w ∷ v, (ap suc e, cc))

-- A COUNT with as many words
counted_met : (c : Channels) (ws : Words) → counted (c.count ∷ (c.each ++ ws)) ≡ some ws
unfolding counted
counted_met c ws = rw (c.digits, c.as_many) (any_met c.each ws)

met_counted : (ws ws' : Words) → counted ws ≡ some ws' → (c : Channels) × (ws ≡ c.count ∷ (c.each ++ ws'))
unfolding counted
met_counted [] ws' h = cc
met_counted (w ∷ ws) ws' h =
    case (both_ways (all_digits w))
    (λ t.
    let (v, (e, q)) = met_any (value_after 0 w) ws ws' (rw t at h) in
    (record { count = w; each = v; digits = t; as_many = e }, cc))
    (λ f. let e : none ≡ some ws' = rw f at h in cc)

-- AN OPENING, with three words
opening_met : (o : Offset) (ws : Words) → opening (open_word ∷ (spelt_offset o ++ ws)) ≡ some ws
unfolding opening bind any_words
opening_met o ws = rw (keyword_met, keyword_met)

met_three : (ws ws' : Words) → any_words 3 ws ≡ some ws' → (o : Offset) × (offset_word ∷ ws ≡ spelt_offset o ++ ws')
unfolding any_words
met_three [] ws' h = cc
met_three (x ∷ []) ws' h = cc
met_three (x ∷ (y ∷ [])) ws' h = cc
met_three (x ∷ (y ∷ (z ∷ ws))) ws' h = (record { x = x; y = y; z = z }, cc)

met_opening : (ws ws' : Words) → opening ws ≡ some ws' → (o : Offset) × (ws ≡ open_word ∷ (spelt_offset o ++ ws'))
unfolding opening
met_opening ws ws' h =
    let (on, opens, rest) = (bind-eq-some_iff (keyword open_word ws) _).0 h in
    let (behind, offset, three) = (bind-eq-some_iff (keyword offset_word on) _).0 rest in
    let (o, e) = met_three behind ws' three in
    let p = met_keyword open_word ws on opens in
    let q = met_keyword offset_word on behind offset in
    (o, cc)

-- A HEADING
pub heading_met : (o : Offset) (c : Channels) (ws : Words) → heading (spelt_heading o c ++ ws) ≡ some ws
unfolding heading bind
heading_met o c ws = rw (opening_met o (channels_word ∷ (c.count ∷ (c.each ++ ws))), keyword_met) (counted_met c ws)

pub met_heading : (ws ws' : Words) → heading ws ≡ some ws' → (o : Offset) × ((c : Channels) × (ws ≡ spelt_heading o c ++ ws'))
unfolding heading
met_heading ws ws' h =
    let (on, opens, rest) = (bind-eq-some_iff (opening ws) _).0 h in
    let (behind, channels, count) = (bind-eq-some_iff (keyword channels_word on) _).0 rest in
    let (o, p) = met_opening ws on opens in
    let q = met_keyword channels_word on behind channels in
    let (c, e) = met_counted behind ws' count in
    (o, (c, cc))

-- AN END SITE
pub site_met : (o : Offset) (ws : Words) → site (site_word ∷ (open_word ∷ (spelt_offset o ++ (close_word ∷ ws)))) ≡ some ws
unfolding site bind
site_met o ws = rw (keyword_met, opening_met o (close_word ∷ ws)) (keyword_met close_word ws)

pub met_site : (ws ws' : Words) → site ws ≡ some ws' → (o : Offset) × (ws ≡ site_word ∷ (open_word ∷ (spelt_offset o ++ (close_word ∷ ws'))))
unfolding site
met_site ws ws' h =
    let (on, word, rest) = (bind-eq-some_iff (keyword site_word ws) _).0 h in
    let (behind, opens, closes) = (bind-eq-some_iff (opening on) _).0 rest in
    let (o, e) = met_opening on behind opens in
    let p = met_keyword site_word ws on word in
    let q = met_keyword close_word behind ws' closes in
    (o, cc)
