-- What is answered is what was asked.
use Rattle.yaml_tool.proofs.answer.answered.Goals as goal

pub returns-in-Show : goal.returns-in-Show
returns-in-Show c = rw c.in-Show.is c.show.ensures

pub returns-in-ShowEach : goal.returns-in-ShowEach
returns-in-ShowEach c = rw c.in-ShowEach.is c.show_each.ensures

pub returns-in-Convert : goal.returns-in-Convert
returns-in-Convert c = rw c.in-Convert.is c.of_text.ensures.ended

pub returns-in-Ask : goal.returns-in-Ask
returns-in-Ask c = rw c.in-Ask.is c.ask.ensures

pub returns-in-AskEach : goal.returns-in-AskEach
returns-in-AskEach c = rw c.in-AskEach.is c.ask_each.ensures

pub returns-in-FromJson : goal.returns-in-FromJson
returns-in-FromJson c = rw c.in-FromJson.is c.read_json.ensures

pub returns-in-Events : goal.returns-in-Events
returns-in-Events c = rw c.in-Events.is c.events.ensures

pub returns-in-FullEvents : goal.returns-in-FullEvents
returns-in-FullEvents c = rw c.in-FullEvents.is c.full_events.ensures

pub returns-in-Check : goal.returns-in-Check
returns-in-Check c = rw c.in-Check.is c.checked.ensures
