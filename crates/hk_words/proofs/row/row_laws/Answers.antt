use Rattle.hk_words.proofs.row.row_laws.Goals as goal
use Rattle.hk_words.proofs.RowLaws.{index_below, index_of_injective, slot_at-index_of, index_covered, word_of-with_word_same, word_of-with_word_other, length-with_word, is_place, place_at_injective}

pub returns-clause-below : goal.returns-clause-below
returns-clause-below c = index_below

pub returns-clause-distinct : goal.returns-clause-distinct
returns-clause-distinct c = index_of_injective

pub returns-clause-found : goal.returns-clause-found
returns-clause-found c = slot_at-index_of

pub returns-clause-covered : goal.returns-clause-covered
returns-clause-covered c = index_covered

pub returns-clause-same : goal.returns-clause-same
returns-clause-same c = word_of-with_word_same

pub returns-clause-other : goal.returns-clause-other
returns-clause-other c = word_of-with_word_other

pub returns-clause-length : goal.returns-clause-length
returns-clause-length c = length-with_word

pub returns-clause-places : goal.returns-clause-places
returns-clause-places c = is_place

pub returns-clause-distinct_places : goal.returns-clause-distinct_places
returns-clause-distinct_places c = place_at_injective
