use Rattle.std.proofs.Common.{◌≡◌, ◌+◌, ◌-◌, length, arith}
use Rattle.matching.specs.Matchings.{pair_count, alone_count}
use Rattle.matching.proofs.PairCounts.{paired_or_alone}
use Rattle.writing.specs.Written.{Puts}
use Rattle.writing.specs.Decimal.{number_line}
use Rattle.writing.proofs.Writers.{puts_append, room_front, room_behind}
use Rattle.listing.specs.Text.{pairs_word, alone_word, pairing_text}
use Rattle.listing.proofs.lines.Listing.write_pairing.Goals as goal
use Rattle.listing.proofs.lines.Listing.write_pairing.Goals.{After-count_paired-paired, After-number_line, After-number_line-2}

-- how many joints are not paired
others : (c : After-count_paired-paired) → c.count_paired-paired.result + alone_count c.args.self.now.partners.now ≡ length c.args.self.now.partners.now
others c = let e = c.count_paired-paired.ensures in let h = paired_or_alone c.args.self.now.partners.now in omega arith

alone : (c : After-count_paired-paired) → length c.args.self.now.partners.now - c.count_paired-paired.result ≡ alone_count c.args.self.now.partners.now
alone c = let h = others c in omega arith

-- the two counts as they are written
pairs_put : (c : After-number_line) → Puts c.args.out.now (number_line pairs_word (pair_count c.args.self.now.partners.now)) c.number_line.new.self
pairs_put c = rw c.count_paired-paired.ensures at c.number_line.ensures

alone_put : (c : After-number_line-2) → Puts c.write_pairs.new.out (number_line alone_word (alone_count c.args.self.now.partners.now)) c.number_line-2.new.self
alone_put c = rw (alone (goal.at.After-number_line-2 c).After-count_paired-paired) at c.number_line-2.ensures

pub number_line-requires : goal.number_line-requires
unfolding pairing_text
number_line-requires c =
    let h = others (goal.at.number_line-requires c).After-count_paired-paired in
    (omega arith, rw c.count_paired-paired.ensures (room_front _ c.requires))

pub write_pairs-requires : goal.write_pairs-requires
unfolding pairing_text
write_pairs-requires c = room_front _ (room_behind c.requires (pairs_put (goal.at.write_pairs-requires c).After-number_line))

pub overflow_sub-self : goal.overflow_sub-self
overflow_sub-self c = let h = others (goal.at.overflow_sub-self c).After-count_paired-paired in omega arith

pub number_line-requires-2 : goal.number_line-requires-2
unfolding pairing_text
number_line-requires-2 c =
    let counted = (goal.at.number_line-requires-2 c).After-count_paired-paired in
    let h = others counted in
    let first = pairs_put (goal.at.number_line-requires-2 c).After-number_line in
    (omega arith, rw (alone counted) (room_front _ (room_behind (room_behind c.requires first) c.write_pairs.ensures)))

pub write_alone-requires : goal.write_alone-requires
unfolding pairing_text
write_alone-requires c =
    let first = pairs_put (goal.at.write_alone-requires c).After-number_line in
    let third = alone_put (goal.at.write_alone-requires c).After-number_line-2 in
    room_behind (room_behind (room_behind c.requires first) c.write_pairs.ensures) third

pub returns : goal.returns
unfolding pairing_text
returns c =
    puts_append (pairs_put (goal.at.returns c).After-number_line)
    (puts_append c.write_pairs.ensures (puts_append (alone_put (goal.at.returns c).After-number_line-2) c.write_alone.ensures))
