use Rattle.virtqueue.specs.laws.Lengths.{length_readable, length_places, length_put_at, length_used_written}
use Rattle.virtqueue.proofs.laws.joined_lengths.Goals as goal

pub returns-clause-readable : goal.returns-clause-readable
returns-clause-readable c = λ bytes parts inside. length_readable bytes parts inside

pub returns-clause-writable : goal.returns-clause-writable
returns-clause-writable c = λ parts. length_places parts

pub returns-clause-put : goal.returns-clause-put
returns-clause-put c = λ bytes places values. length_put_at bytes places values

pub returns-clause-used : goal.returns-clause-used
returns-clause-used c = λ queue bytes head len areas sized. length_used_written queue bytes head len areas sized
