mod KeyLines
