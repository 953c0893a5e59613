use Rattle.spin_session.proofs.calls.enter.Given as goal

abbrev pub ghost-watch : goal.ghost-watch
ghost-watch g a = a.self.now.name
