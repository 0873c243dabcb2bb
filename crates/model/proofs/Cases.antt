-- The cases hold, by computation. `starred_hold` is the one theorem for document 01's starred cases.
use mathlib.Core.List.{[], ◌∷◌}
use mathlib.Core.Option.{Option}
use mathlib.Core.Bool.{true}
use mathlib.Core.Path.{◌≡◌, refl}
use Rattle.base.specs.Bytes.{bytes, eql}
use Rattle.base.specs.Bounded.{some, every, one, size, members}
use Rattle.base.specs.Least.{next_of, next_from, least_of}
use Rattle.base.specs.Lists.{anyb, allb, member}
use Rattle.model.specs.Graph.{value_of, datatype_of, language_of, holds, has_triple}
use Rattle.model.specs.Repeats.{up_to, star, plus}
use Rattle.model.specs.Paths.{sequence, ends, ends_of}
use Rattle.model.specs.Shapes.{is_kind, satisfies, within, subset, none_shared, all_pairs, less, less_eq, same_lang, conforms, expand}
use Rattle.model.specs.PathNumbers.{parts_of, end_paths, paths_of, paths_of_all, book_paths}
use Rattle.model.specs.Rounds.{settled, rounds, rounds_in}
use Rattle.model.specs.Nearest.{at, spare_within, hops, lowest, nearest, nearest_in}
use Rattle.model.specs.Rules.{subjects_of, class_path, selects, violates, violations}
use Rattle.model.specs.Books.{new_terms, new_triples, new_shapes, new_names, joins, collect, graph_of, schema_from, schema, list_of, built_in, names, nodes, links, number_in, under, sub_class_of}
use Rattle.model.specs.Cases.{agree, mount, twin, book_b, book_c, book_d, starred, rows, repeats, rounds_agree, searches, nearest_found, nearest_told, spares, kinds_agree, kinds_book, kinds, straight}

pub starred_hold : agree book_b starred ≡ true
unfolding some every one size anyb allb member value_of datatype_of language_of holds has_triple ends ends_of is_kind satisfies within subset none_shared all_pairs less less_eq same_lang conforms expand new_terms new_triples new_shapes collect graph_of schema_from schema agree
starred_hold = refl

pub rows_hold : agree book_c rows ≡ true
unfolding some every one size anyb allb member value_of datatype_of language_of holds has_triple ends ends_of is_kind satisfies within subset none_shared all_pairs less less_eq same_lang conforms expand new_terms new_triples new_shapes collect graph_of schema_from schema agree
rows_hold = refl

-- document 02, Job 1
pub repeats_hold : agree book_d repeats ≡ true
unfolding some every one size anyb allb member value_of datatype_of language_of holds has_triple up_to star plus ends ends_of is_kind satisfies within subset none_shared all_pairs less less_eq same_lang conforms expand new_terms new_triples new_shapes collect graph_of schema_from schema agree
repeats_hold = refl

-- document 02, Job 7
pub searches_hold : rounds_agree book_d searches ≡ true
unfolding some every next_of next_from anyb has_triple up_to star plus ends subset settled rounds new_terms new_triples collect graph_of rounds_agree
searches_hold = refl

-- document 02, Job 11
pub spares_hold : nearest_found book_d spares ≡ nearest_told spares
unfolding some every one size next_of next_from anyb allb member value_of datatype_of language_of holds has_triple up_to star plus ends ends_of is_kind satisfies within subset none_shared all_pairs less less_eq same_lang conforms spare_within hops lowest nearest new_terms new_triples collect graph_of nearest_found nearest_told
spares_hold = refl

-- document 02, Job 5
pub kinds_hold : kinds_agree (kinds_book under) kinds ≡ true
unfolding some next_of next_from least_of eql anyb has_triple up_to star ends class_path selects new_names joins built_in names number_in sub_class_of new_terms new_triples collect graph_of kinds_agree
kinds_hold = refl

-- the same book with another name for that link
pub straight_hold : kinds_agree (kinds_book (bytes "beside")) straight ≡ true
unfolding some next_of next_from least_of eql anyb has_triple up_to star ends class_path selects new_names joins built_in names number_in sub_class_of new_terms new_triples collect graph_of kinds_agree
straight_hold = refl

-- a name held twice means its lowest number; one that begins another, or that another begins, is not it
pub lowest-named : number_in (bytes "a" ∷ bytes "unde" ∷ bytes "under1" ∷ under ∷ bytes "feeds" ∷ under ∷ []) under ≡ Option.some 3
unfolding next_of next_from least_of eql number_in
lowest-named = refl

pub none_named : number_in (bytes "a" ∷ bytes "unde" ∷ bytes "under1" ∷ []) under ≡ Option.none
unfolding next_of next_from least_of eql number_in
none_named = refl

-- book B's rule lists `left`, its node 0
pub list_of_B : list_of book_b (record { shape = 0; target = subjects_of 2 }) ≡ 0 ∷ []
unfolding some every one size members anyb allb member value_of datatype_of language_of holds has_triple ends ends_of is_kind satisfies within subset none_shared all_pairs less less_eq same_lang conforms expand selects violates violations new_terms new_triples new_shapes collect graph_of schema_from schema list_of
list_of_B = refl

pub names_of_B : names nodes book_b ≡ bytes "left" ∷ bytes "right" ∷ bytes "h240" ∷ bytes "h215" ∷ []
unfolding new_names joins collect built_in names
names_of_B = refl

pub links_of_B : names links book_b ≡ bytes "a" ∷ bytes "mount" ∷ bytes "twin" ∷ []
unfolding new_names joins collect built_in names
links_of_B = refl

-- the paths of its shape, by number, and the rounds of the last from `left`
pub paths_of_B : book_paths book_b ≡ twin ∷ mount ∷ sequence twin mount ∷ []
unfolding new_shapes collect parts_of end_paths paths_of paths_of_all book_paths
paths_of_B = refl

pub rounds_of_B : rounds_in book_b 0 2 ≡ 1
unfolding some every next_of next_from anyb has_triple up_to ends subset settled rounds new_terms new_triples new_shapes collect graph_of parts_of end_paths paths_of paths_of_all book_paths rounds_in
rounds_of_B = refl

-- from `left` along that path the height of `right` is the nearest node at which nothing is out of level
pub nearest_of_B : nearest_in book_b 0 2 0 ≡ at 1 3
unfolding some every one size next_of next_from anyb allb member value_of datatype_of language_of holds has_triple up_to star ends ends_of is_kind satisfies within subset none_shared all_pairs less less_eq same_lang conforms expand spare_within hops lowest nearest new_terms new_triples new_shapes collect graph_of schema_from schema parts_of end_paths paths_of paths_of_all book_paths nearest_in
nearest_of_B = refl
