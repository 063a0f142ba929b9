-- where the reader finds the bytes malformed, that is the last line
use Rattle.script_player.proofs.ListingLemmas.{malformed-last}
use Rattle.script_player.proofs.check_stream.spell_next.Goals as goal

pub returns-in-Err-Malformed-clause-spelled : goal.returns-in-Err-Malformed-clause-spelled
returns-in-Err-Malformed-clause-spelled c = λ no_memory.
    malformed-last no_memory c.args.file_bytes c.args.reader.now c.feed.new.self c.args.rest.now c.write_malformed.new.text.items
    c.in-Err-Malformed.offset (rw c.in-Err-Malformed.field-0-is at c.in-Err-Malformed.ensures.answers) c.write_malformed.ensures
