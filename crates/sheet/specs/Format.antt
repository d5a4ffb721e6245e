-- The sheet of documents 01 and 02: three sections, each after its count. The third may be left out.
use Rattle.std.specs.Prelude.{List, ℕ, ◌+◌, ◌*◌, get_or, drop}
use Rattle.sections.specs.declared.Entry.{Entry}
use Rattle.sections.specs.Labels.{label_width, label_at}
use Rattle.sections.specs.Entries.{entry_width, entries_from}
use Rattle.parents.specs.Parents.{parents_in}

-- joints: their count n, where the labels begin, and the part of the sheet with them
abbrev pub joints : List ℕ → ℕ
joints s = get_or s 0 0

abbrev pub labels_start : ℕ
labels_start = 1

abbrev pub labels_part : List ℕ → List ℕ
labels_part s = drop labels_start s

-- rankings: where their count begins, the count m (low byte first), where the m entries begin, and the part with them
abbrev pub count_start : List ℕ → ℕ
count_start s = labels_start + label_width * joints s

abbrev pub rank_count : List ℕ → ℕ
rank_count s = get_or s (count_start s) 0 + 256 * get_or s (count_start s + 1) 0

abbrev pub rank_start : List ℕ → ℕ
rank_start s = count_start s + 2

abbrev pub rankings_part : List ℕ → List ℕ
rankings_part s = drop (rank_start s) s

-- where the entries end: the sheet's end, or where the third section begins with its count
abbrev pub rank_end : List ℕ → ℕ
rank_end s = rank_start s + entry_width * rank_count s

-- parents: the section with its count, which is there if bytes follow the rankings; and the parent bytes
abbrev pub third : List ℕ → List ℕ
third s = drop (rank_end s) s

abbrev pub parents_of : List ℕ → List ℕ
parents_of s = parents_in (third s)

-- the label of joint i; all entries, whether or not they are returned
abbrev pub label_of : List ℕ → ℕ → List ℕ
label_of s = label_at s labels_start

abbrev pub entries_of : List ℕ → List Entry
entries_of s = entries_from (rank_count s) 0 (rankings_part s)
