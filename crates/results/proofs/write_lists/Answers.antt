-- The shortened lists: the count's two bytes, then the entries.
use Rattle.std.proofs.Common.{rules, ◌≡◌, ◌∙◌, ◌++◌, ◌≤◌, length, arith}
use Rattle.writing.specs.Written.{HasRoom}
use Rattle.writing.proofs.Writers.{puts_append, room_front, room_behind, new_room, new_puts}
use Rattle.roommates.specs.Left.{entries, list_bytes}
use Rattle.roommates.proofs.EntriesWritten.{bytes_length}
use Rattle.results.proofs.LawsResults.{count_small, lists_are}
use Rattle.results.proofs.write_lists.Goals as goal
use Rattle.results.proofs.write_lists.Goals.{After-to_le_bytes}

parts : (c : After-to_le_bytes) → list_bytes c.args.n.count c.args.bands.now ≡ c.to_le_bytes.result ++ entries c.args.n.count c.args.bands.now
parts c =
    let count = c.count_entries-count.ensures in
    lists_are c.args.n.count c.args.bands.now count (count_small c.args.n.count c.args.bands.now c.args.n.few count) c.to_le_bytes.ensures

fits : (c : After-to_le_bytes) → length (list_bytes c.args.n.count c.args.bands.now) ≤ length c.args.out.now
fits c = omega (arith, bytes_length c.args.n.count c.args.bands.now, c.requires)

room : (c : After-to_le_bytes) → HasRoom c.new-lists.result (c.to_le_bytes.result ++ entries c.args.n.count c.args.bands.now)
room c = rw (parts c) at (new_room {w = c.new-lists.result} c.new-lists.ensures.bytes c.new-lists.ensures.start (fits c))

pub overflow_cast-count : goal.overflow_cast-count
overflow_cast-count c = let small = count_small c.args.n.count c.args.bands.now c.args.n.few c.count_entries-count.ensures in omega arith

pub write-requires : goal.write-requires
write-requires c = room_front _ (room (goal.at.write-requires c).After-to_le_bytes)

pub write_rows-requires : goal.write_rows-requires
write_rows-requires c = room_behind (room (goal.at.write_rows-requires c).After-to_le_bytes) c.write.ensures

pub returns : goal.returns
returns c =
    let count = c.count_entries-count.ensures in
    let counted = (goal.at.returns c).After-to_le_bytes in
    let all = rw (← parts counted) at (puts_append c.write.ensures c.write_rows.ensures) in
    let whole = (new_puts c.new-lists.ensures.bytes c.new-lists.ensures.start (fits counted) all).1 in
    record { value = count; out_after = rw (count, ← bytes_length c.args.n.count c.args.bands.now) ((search rules) ∙ whole) }
