-- The commit makes the image of what was cut.
use Rattle.std.proofs.Common.{ap, ◌∙◌}
use Rattle.backup_image.{specs.Images.ImageState, proofs.StageLemmas.new-committed}
use Rattle.backup_image.proofs.laws.cuts_are_committed.Goals as goal

pub returns-clause-delta : goal.returns-clause-delta
returns-clause-delta c = λ i m d base makes new. ap (λ (s : ImageState). s.guest) (new-committed i d new) ∙ makes i.guest base

pub returns-clause-full : goal.returns-clause-full
returns-clause-full c = λ i m d makes new. ap (λ (s : ImageState). s.guest) (new-committed i d new) ∙ makes i.guest

pub returns-clause-standing : goal.returns-clause-standing
returns-clause-standing c = λ i d new. ap (λ (s : ImageState). s.stands_at) (new-committed i d new)

pub returns-clause-kept : goal.returns-clause-kept
returns-clause-kept c = λ i d new. ap (λ (s : ImageState). s.kept) (new-committed i d new)

pub returns-clause-sent : goal.returns-clause-sent
returns-clause-sent c = λ i d new. ap (λ (s : ImageState). s.sent) (new-committed i d new)
