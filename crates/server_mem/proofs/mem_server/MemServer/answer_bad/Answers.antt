use Rattle.server_mem.proofs.mem_server.MemServer.answer_bad.Goals as goal

pub returns-clause-answered : goal.returns-clause-answered
returns-clause-answered c = record {
  may = (c.requires, c.in_ok-tag.ensures.text.0);
  after = c.drop_parts.ensures;
  lines = c.in_ok-tag.ensures.line;
  text = c.in_ok-tag.ensures.text.1;
}
