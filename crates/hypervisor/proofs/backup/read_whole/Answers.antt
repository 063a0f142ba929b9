use Rattle.std.proofs.Common.{rules, ◌≡◌, ◌≤◌, length, true}
use Rattle.hypervisor.specs.FirstBackups.{IsReadOf, is_all_of}
use Rattle.hypervisor.proofs.FirstBackups.{whole-read, one-read}
use Rattle.hypervisor.proofs.backup.read_whole.Goals as goal

pub returns : goal.returns
returns c =
    let answers = c.in_ok-count.ensures.answers in
    let some = c.in-Some.ensures.whole in
    let test = c.if-not-is_all_of.ensures in
    let bytes = c.bytes-bytes.result.now in
    let count = c.in_ok-count.count in
    let read = c.in-Some.checkpoint in
    let packet = c.args.packet.now in
    let all : length packet.text ≤ count = search (rules, test.all) in
    let generation : read.generation ≡ packet.generation = search (rules, test.generation) in
    let number : read.number ≡ packet.number = search (rules, test.number) in
    let taken : length bytes ≤ count = rw c.bytes-bytes.ensures all in
    let is : IsReadOf c.args.shape packet read =
    whole-read c.args.shape packet _ _ bytes count read c.read_is_its_text.ensures c.byte_widths.ensures c.bytes-bytes.ensures
    c.new-reader.ensures answers.0 answers.1 taken some.0 some.1 generation number in
    let named : is_all_of count read packet ≡ true = search (rules, test.value) in
    one-read c.args.shape packet _ _ bytes c.new-reader.ensures c.bytes-bytes.ensures count answers read some.0 some.1 named is
