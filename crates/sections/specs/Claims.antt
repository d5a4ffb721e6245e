-- What sections without a fault are, in document 01's words beside the tests that decide it.
use Rattle.std.specs.Prelude.{◌≡◌, true, List, ◌⊎◌, ◌≢◌, ◌↔◌, ℕ, ◌*◌, ◌-◌, ◌≤◌, ◌<◌, length, get_or}
use Rattle.sections.specs.declared.Entry.{Entry}
use Rattle.sections.specs.Labels.{label_width, label_in, label_ok, labels_fault}
use Rattle.sections.specs.Entries.{entry_in, entry_of, entries_fault}

-- A label: one or more bytes from 33 to 126, then zero bytes to the end.
pub record Label (l : List ℕ) : Type 0 where
  pub run : ℕ
  pub some : 1 ≤ run
  pub within : run ≤ length l
  pub seen : (i : ℕ) → i < run → (33 ≤ get_or l i 0) × (get_or l i 0 ≤ 126)
  pub zeros : (i : ℕ) → run ≤ i → i < length l → get_or l i 0 ≡ 0

abbrev pub LabelRule : Type 0
LabelRule = (l : List ℕ) → label_ok l ≡ true ↔ Label l

-- The labels' section: n labels, each by the rule, which differ.
pub record GoodLabels (n : ℕ) (part : List ℕ) : Type 0 where
  pub long : label_width * n ≤ length part
  pub each : (i : ℕ) → i < n → Label (label_in part i)
  pub differ : (i j : ℕ) → j < i → i < n → label_in part i ≢ label_in part j

abbrev pub LabelsRule : Type 0
LabelsRule = (n : ℕ) (part : List ℕ) → labels_fault n part ≡ 0 ↔ GoodLabels n part

-- An entry of a sheet with n joints.
pub record Sound (n : ℕ) (e : Entry) : Type 0 where
  pub joint_below : e.joint < n
  pub other_below : e.other < n
  pub not_itself : e.joint ≢ e.other
  pub band_above : 1 ≤ e.band
  pub band_below : e.band ≤ 127

-- d comes before e: by joint, then by candidate
abbrev pub Before : Entry → Entry → Type 0
Before d e = (d.joint < e.joint) ⊎ ((d.joint ≡ e.joint) × (d.other < e.other))

-- P holds of each entry of a list; each comes before those behind it
abbrev pub Each : (Entry → Type 0) → List Entry → Type 0
Each P es = (j : ℕ) → j < length es → P (entry_of es j)

abbrev pub Ascending : List Entry → Type 0
Ascending es = (i j : ℕ) → i < j → j < length es → Before (entry_of es i) (entry_of es j)

-- The entries: each is sound, and they ascend strictly.
pub record GoodEntries (m n : ℕ) (part : List ℕ) : Type 0 where
  pub each : (j : ℕ) → j < m → Sound n (entry_in part j)
  pub ascending : (i j : ℕ) → i < j → j < m → Before (entry_in part i) (entry_in part j)

abbrev pub EntriesRule : Type 0
EntriesRule = (m n : ℕ) (part : List ℕ) → entries_fault m n part ≡ 0 ↔ GoodEntries m n part

-- So n joints have at most n × (n - 1) entries.
abbrev pub EntriesFew : Type 0
EntriesFew = (m n : ℕ) (part : List ℕ) → entries_fault m n part ≡ 0 → m ≤ n * (n - 1)
