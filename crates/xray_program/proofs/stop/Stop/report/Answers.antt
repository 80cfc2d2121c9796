use Rattle.xray_program.proofs.stop.Stop.report.Goals as goal

pub returns-in-BadLine : goal.returns-in-BadLine
returns-in-BadLine g c = rw c.in-BadLine.is c.say.ensures

pub returns-in-Unread : goal.returns-in-Unread
returns-in-Unread g c = rw c.in-Unread.is c.say_of.ensures

pub returns-in-TooLong : goal.returns-in-TooLong
returns-in-TooLong g c = rw c.in-TooLong.is c.say_of-in-TooLong.ensures

pub returns-in-Unwritten : goal.returns-in-Unwritten
returns-in-Unwritten g c = rw c.in-Unwritten.is c.say_of-in-Unwritten.ensures

pub returns-in-NoMemory : goal.returns-in-NoMemory
returns-in-NoMemory g c = rw c.in-NoMemory.is c.say-in-NoMemory.ensures
