-- What the lines of the objects define.
use Rattle.std.proofs.Common.{◌≡◌, ℕ, zero, suc, ◌+◌, List, [], ◌∷◌, ◌++◌, ap, sym, refl, ◌∙◌, pos, codes, append_assoc, append-nil, ap₂}
use Rattle.std.proofs.Common.{subst, None, Some, Option, option_and_then}
use Rattle.std.specs.Fmt.{decimal}
use Rattle.toml.specs.Data.{Data, Items, Members, member, no_members, array, integer, no_items, item, push_item, string, table}
use Rattle.toml.specs.Tables.{Document, Expression, Nodes, value, open_table, open_array, no_nodes, node, close, header, define, at_key}
use Rattle.toml.specs.Tables.{along_dots, along_header}
use Rattle.toml.proofs.ReadLines.{run}
use Rattle.rw_promise.specs.ModelTable.{cascade_table, link_sections, reach_section, reservoir_section, run_section, with_each}
use Rattle.rw_promise.proofs.Lines.{link_lines, name, reach_lines, reservoir_lines, run_lines, all_lines, both_links, model_lines}

run_append : (doc : Document) (es fs : List Expression) → run doc (es ++ fs) ≡ option_and_then (λ next. run next fs) (run doc es)
run_append doc [] fs = refl
run_append doc (e ∷ es) fs = by (define doc e) (λ next. run_append next es fs)
  where
    by : (found : Option Document) → ((next : Document) → run next (es ++ fs) ≡ option_and_then (λ last. run last fs) (run next es))
        → option_and_then (λ next. run next (es ++ fs)) found ≡ option_and_then (λ next. run next fs) (option_and_then (λ next. run next es) found)
    by None behind = refl
    by (Some next) behind = behind next

abbrev run_nodes : Nodes
run_nodes = node (codes "start") (value (string (codes "2020-01-01T00:00"))) (node (codes "step") (value (string (codes "24h")))
    (node (codes "steps") (value (integer (pos 365))) no_nodes))

abbrev with_objects : Items → Nodes → Document
with_objects done last = (
  node (codes "format") (value (integer (pos 1))) (node (codes "object") (open_array done last)
      (node (codes "run") (open_table header run_nodes) no_nodes)),
  codes "object" ∷ [],
)

abbrev reservoir_nodes : ℕ → Nodes
reservoir_nodes n = node (codes "initial_storage") (value (integer (pos 100000))) (node (codes "kind") (value (string (codes "reservoir")))
    (node (codes "name") (value (string (codes "D" ++ decimal n))) no_nodes))

pub reservoir_more : (done : Items) (last : Nodes) (n : ℕ) → run (with_objects done last) (reservoir_lines n)
    ≡ Some (with_objects (push_item done (table (close last))) (reservoir_nodes n))
unfolding define at_key along_dots along_header
reservoir_more done last n = refl

abbrev reach_nodes : ℕ → Nodes
reach_nodes n = node (codes "history") (value (array (item (integer (pos 100)) no_items))) (node (codes "kind") (value (string (codes "reach")))
    (node (codes "lag") (value (integer (pos 1))) (node (codes "name") (value (string (codes "R" ++ decimal n))) no_nodes)))

pub reach_more : (done : Items) (last : Nodes) (n : ℕ) → run (with_objects done last) (reach_lines n)
    ≡ Some (with_objects (push_item done (table (close last))) (reach_nodes n))
unfolding define at_key along_dots along_header
reach_more done last n = refl

abbrev with_links : Items → Nodes → Items → Nodes → Document
with_links linked link done last = (
  node (codes "format") (value (integer (pos 1))) (node (codes "link") (open_array linked link)
      (node (codes "object") (open_array done last) (node (codes "run") (open_table header run_nodes) no_nodes))),
  codes "link" ∷ [],
)

abbrev link_nodes : List ℕ → ℕ → List ℕ → ℕ → Nodes
link_nodes from m to n = node (codes "slots") (value (array (item (string (name from m (codes ".Outflow")))
    (item (string (name to n (codes ".Inflow"))) no_items)))) no_nodes

pub link_more : (linked : Items) (link : Nodes) (done : Items) (last : Nodes) (from to : List ℕ) (m n : ℕ)
    → run (with_links linked link done last) (link_lines from m to n)
    ≡ Some (with_links (push_item linked (table (close link))) (link_nodes from m to n) done last)
unfolding define at_key along_dots along_header
link_more linked link done last from to m n = refl

pub link_first : (done : Items) (last : Nodes) (from to : List ℕ) (m n : ℕ)
    → run (with_objects done last) (link_lines from m to n) ≡ Some (with_links no_items (link_nodes from m to n) done last)
unfolding define at_key along_dots along_header
link_first done last from to m n = refl

pub reservoir_first : (n : ℕ) → run (no_nodes, []) (run_lines ++ reservoir_lines n) ≡ Some (with_objects no_items (reservoir_nodes n))
unfolding define at_key along_dots along_header
reservoir_first n = refl

-- ---- as many as there are

record Objects (found : Option Document) (items : Items) : Type 0 where
  done : Items
  last : Nodes
  is : found ≡ Some (with_objects done last)
  all : push_item done (table (close last)) ≡ items

objects_more : (doc : Document) (es fs : List Expression) (items : Items) (before : Objects (run doc es) items) (each : Data) (nodes : Nodes)
    → ((done : Items) (last : Nodes) → run (with_objects done last) fs ≡ Some (with_objects (push_item done (table (close last))) nodes))
    → table (close nodes) ≡ each → Objects (run doc (es ++ fs)) (push_item items each)
objects_more doc es fs items before each nodes more closed = record {
  done = push_item before.done (table (close before.last));
  last = nodes;
  is = run_append doc es fs ∙ ap (option_and_then (λ next. run next fs)) before.is ∙ more before.done before.last;
  all = ap₂ (λ rest one. push_item rest one) before.all closed;
}

reservoirs_done : (before : ℕ)
    → Objects (run (no_nodes, []) (run_lines ++ all_lines reservoir_lines (suc before))) (with_each no_items reservoir_section (suc before))
reservoirs_done zero = record { done = no_items; last = reservoir_nodes 1; is = reservoir_first 1; all = refl }
reservoirs_done (suc before) =
    subst (λ es. Objects (run (no_nodes, []) es) (with_each no_items reservoir_section (suc (suc before))))
    (append_assoc run_lines (all_lines reservoir_lines (suc before)) (reservoir_lines (suc (suc before))))
    (objects_more (no_nodes, []) (run_lines ++ all_lines reservoir_lines (suc before)) (reservoir_lines (suc (suc before)))
    (with_each no_items reservoir_section (suc before))
    (reservoirs_done before) (reservoir_section (suc (suc before))) (reservoir_nodes (suc (suc before)))
    (λ done last. reservoir_more done last (suc (suc before))) refl)

reaches_done : (doc : Document) (es : List Expression) (items : Items) → Objects (run doc es) items
    → (count : ℕ) → Objects (run doc (es ++ all_lines reach_lines count)) (with_each items reach_section count)
reaches_done doc es items before zero = subst (λ all. Objects (run doc all) items) (sym (append-nil es)) before
reaches_done doc es items before (suc count) =
    subst (λ all. Objects (run doc all) (with_each items reach_section (suc count)))
    (append_assoc es (all_lines reach_lines count) (reach_lines (suc count)))
    (objects_more doc (es ++ all_lines reach_lines count) (reach_lines (suc count)) (with_each items reach_section count)
    (reaches_done doc es items before count) (reach_section (suc count)) (reach_nodes (suc count))
    (λ done last. reach_more done last (suc count)) refl)

record Links (found : Option Document) (items : Items) (done : Items) (last : Nodes) : Type 0 where
  linked : Items
  link : Nodes
  is : found ≡ Some (with_links linked link done last)
  all : push_item linked (table (close link)) ≡ items

abbrev in_nodes : ℕ → Nodes
in_nodes n = link_nodes (codes "D") n (codes "R") n

abbrev out_nodes : ℕ → Nodes
out_nodes n = link_nodes (codes "R") n (codes "D") (n + 1)

links_done : (done : Items) (last : Nodes) (before : ℕ)
    → Links (run (with_objects done last) (all_lines both_links (suc before))) (link_sections (suc before)) done last
links_done done last zero = record {
  linked = push_item no_items (table (close (in_nodes 1)));
  link = out_nodes 1;
  is = run_append (with_objects done last) (link_lines (codes "D") 1 (codes "R") 1) (link_lines (codes "R") 1 (codes "D") 2)
      ∙ ap (option_and_then (λ next. run next (link_lines (codes "R") 1 (codes "D") 2))) (link_first done last (codes "D") (codes "R") 1 1)
      ∙ link_more no_items (in_nodes 1) done last (codes "R") (codes "D") 1 2;
  all = refl;
}
links_done done last (suc before) =
    let n = suc (suc before) in
    let rest = links_done done last before in
    let first = link_lines (codes "D") n (codes "R") n in
    let second = link_lines (codes "R") n (codes "D") (n + 1) in
    record {
      linked = push_item (push_item rest.linked (table (close rest.link))) (table (close (in_nodes n)));
      link = out_nodes n;
      is = run_append (with_objects done last) (all_lines both_links (suc before)) (both_links n)
          ∙ ap (option_and_then (λ next. run next (both_links n))) rest.is
          ∙ run_append (with_links rest.linked rest.link done last) first second
          ∙ ap (option_and_then (λ next. run next second)) (link_more rest.linked rest.link done last (codes "D") (codes "R") n n)
          ∙ link_more (push_item rest.linked (table (close rest.link))) (in_nodes n) done last (codes "R") (codes "D") n (n + 1);
      all = ap (λ items. push_item (push_item items (table (close (in_nodes n)))) (table (close (out_nodes n)))) rest.all;
    }

pub record Defines (found : Option Document) (all : Members) : Type 0 where
  pub document : Document
  pub is : found ≡ Some document
  pub closed : close document.0 ≡ all

pub model_defines : (reservoirs reaches links : ℕ)
    → Defines (run (no_nodes, []) (model_lines (suc reservoirs) reaches (suc links))) (cascade_table (suc reservoirs) reaches (suc links))
model_defines reservoirs reaches links =
    let objects = reaches_done (no_nodes, []) (run_lines ++ all_lines reservoir_lines (suc reservoirs))
    (with_each no_items reservoir_section (suc reservoirs))
    (reservoirs_done reservoirs) reaches in
    let linked = links_done objects.done objects.last links in
    let order =
    append_assoc (run_lines ++ all_lines reservoir_lines (suc reservoirs)) (all_lines reach_lines reaches) (all_lines both_links (suc links))
    ∙ append_assoc run_lines (all_lines reservoir_lines (suc reservoirs)) (all_lines reach_lines reaches ++ all_lines both_links (suc links)) in
    record {
      document = with_links linked.linked linked.link objects.done objects.last;
      is = ap (run (no_nodes, [])) (sym order)
          ∙ run_append (no_nodes, []) ((run_lines ++ all_lines reservoir_lines (suc reservoirs)) ++ all_lines reach_lines reaches)
          (all_lines both_links (suc links))
          ∙ ap (option_and_then (λ next. run next (all_lines both_links (suc links)))) objects.is ∙ linked.is;
      closed = ap₂ (λ ls os. member (codes "format") (integer (pos 1)) (member (codes "link") (array ls)
          (member (codes "object") (array os) (member (codes "run") run_section no_members)))) linked.all objects.all;
    }
