use Rattle.linked_starts.proofs.Offers.{trusted_stand}
use Rattle.component_linker.proofs.linking.trusted_code_stands.Goals as goal

pub returns : goal.returns
returns c =
    trusted_stand
    (λ d fits kept i lt.
    (c.sequences_stand_word_by_word.ensures.sites d i).0 (c.sequences_stand.ensures.sites d fits kept i lt))
    (λ d fits kept o begins. (c.sequences_stand_word_by_word.ensures.entries d o).0
    (c.sequences_stand.ensures.entries d fits kept o begins))
