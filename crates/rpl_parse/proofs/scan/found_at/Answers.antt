use Rattle.rpl_parse.proofs.ScanFacts.{quoted_found}
use Rattle.rpl_parse.proofs.scan.found_at.Goals as goal

pub returns-in-Text : goal.returns-in-Text
returns-in-Text c =
    quoted_found c.args.at c.in-Text.n c.args.text.now c.behind.result.now c.span-in-Text.result c.behind.ensures c.requires.inside
    c.span-in-Text.ensures.start c.span-in-Text.ensures.end c.in-Text.ensures.value c.in-Text.ensures.within
